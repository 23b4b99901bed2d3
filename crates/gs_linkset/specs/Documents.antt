-- Linksets in JSON: RFC 9264, section 4.2. An anchor for each context, and the members to ignore, are this project's own rules.
use Rattle.std.specs.Prelude.{ℕ, if◌then◌else◌, List, [], ◌∷◌, ◌++◌, map, codes, Option, None, option_map, option_and_then, unwrap_or}
use Rattle.std.specs.List.{enumerate_from, filter_map, flat_map}
use Rattle.std.specs.Option.{option_map_or}
use Rattle.std.specs.Str.{bytes_eq}
use Rattle.serde_json.specs.Data.{Data}
use Rattle.serde_json.specs.Find.{as_object, get}
use Rattle.gs_json.specs.Answers.{names_of}
use Rattle.gs_json.specs.Members.{array_in, items_in, must, text_in}
use Rattle.gs_json.specs.Places.{item_place, member_place}
use Rattle.gs_json.specs.Shapes.{entry_errors}
use Rattle.gs_json.specs.declared.error.JsonFault.{JsonFault}
use Rattle.gs_json.specs.declared.error.JsonFault.TheVariants.{Kind}
use Rattle.gs_json.specs.declared.plan.Sort.{Sort}
use Rattle.gs_json.specs.declared.plan.Sort.TheVariants.{Text, Array}
use Rattle.gs_linkset.specs.Attributes.{value_of}
use Rattle.gs_linkset.specs.declared.link_types.Attr.{Attr}
use Rattle.gs_linkset.specs.declared.link_types.Context.{Context}
use Rattle.gs_linkset.specs.declared.link_types.Relation.{Relation}
use Rattle.gs_linkset.specs.declared.link_types.Target.{Target}
use Rattle.gs_linkset.specs.declared.link_types.AttrValue.{AttrValue}

-- trusted, own: the names of the members of `d`, in ascending order
abbrev pub names_in : Data → List (List ℕ)
names_in d = unwrap_or (names_of d) []

-- trusted, own: the errors of the member `name` of `d`, or `Kind` if `d` is not an object
abbrev pub member_errors : Sort → List ℕ → List ℕ → Data → List JsonFault
member_errors sort name place d = option_map_or (λ members. entry_errors place members (must name sort)) (as_object d) (Kind place ∷ [])

-- trusted, own: the errors of the items of the array at `place`, item by item
abbrev pub item_errors : (List ℕ → Data → List JsonFault) → List ℕ → List Data → List JsonFault
item_errors errors place items = flat_map (λ row. errors (item_place place row.0) row.1) (enumerate_from 0 items)

-- ---- targets (section 4.2.3)

-- trusted, own: the attribute of this name and value
abbrev pub attr_with : List ℕ → AttrValue → Attr
attr_with name value = record { name = name; value = value }

-- trusted, own: the attribute of this name, if the value `d` is of its kind
abbrev pub attr_named : List ℕ → Data → Option Attr
attr_named name d = option_map (attr_with name) (value_of name d)

-- trusted, RFC 9264, section 4.2.4; ignoring is own: the attribute of the member `name`, if this is not `href` and its value
-- is of its kind
unfoldable pub attr_of : Data → List ℕ → Option Attr
attr_of d name = if bytes_eq name (codes "href") then None else option_and_then (attr_named name) (get name d)

-- trusted, RFC 9264, section 4.2.3: the target `d`: its `href` and its attributes, in ascending order of name
unfoldable pub target_of : Data → Target
target_of d = record { href = text_in (codes "href") d; attrs = filter_map (attr_of d) (names_in d) }

-- trusted, RFC 9264, section 4.2.3: the errors of the target `d`, which are those of its `href`
unfoldable pub target_errors : List ℕ → Data → List JsonFault
target_errors place d = member_errors Text (codes "href") place d

-- ---- contexts (sections 4.2.1 and 4.2.2)

-- trusted, own: the targets of the member `name`, if this is not `anchor` and is an array
unfoldable pub targets_at : Data → List ℕ → Option (List Data)
targets_at d name = if bytes_eq name (codes "anchor") then None else option_and_then array_in (get name d)

-- trusted, own: the relation of this name and these targets
abbrev pub relation_with : List ℕ → List Data → Relation
relation_with name items = record { name = name; targets = map target_of items }

-- trusted, RFC 9264, section 4.2.2: the relation of the member `name`, if it is one
unfoldable pub relation_of : Data → List ℕ → Option Relation
relation_of d name = option_map (relation_with name) (targets_at d name)

-- trusted, RFC 9264, section 4.2.2: the errors of the relation `name`, which are those of its targets in their order
unfoldable pub relation_errors : List ℕ → Data → List ℕ → List JsonFault
relation_errors place d name = option_map_or (item_errors target_errors (member_place place name)) (targets_at d name) []

-- trusted, RFC 9264, section 4.2.2; requiring an anchor is own: the context `d`: its anchor and its relations, in ascending
-- order of name
unfoldable pub context_of : Data → Context
context_of d = record { anchor = text_in (codes "anchor") d; relations = filter_map (relation_of d) (names_in d) }

-- trusted, RFC 9264, section 4.2.2; requiring an anchor is own: the errors of the context `d`: its anchor's, then its
-- relations'
unfoldable pub context_errors : List ℕ → Data → List JsonFault
context_errors place d = member_errors Text (codes "anchor") place d ++ flat_map (relation_errors place d) (names_in d)

-- ---- the document (section 4.2)

-- trusted, RFC 9264, section 4.2.1: the contexts of the document `d`, in its order
unfoldable pub contexts_of : Data → List Context
contexts_of d = map context_of (items_in (codes "linkset") d)

-- trusted, RFC 9264, section 4.2; the order and ignoring are own: the list of all errors of the document `d` in the order of
-- the reports: its own, then context by context
unfoldable pub document_errors : Data → List JsonFault
document_errors d =
    member_errors Array (codes "linkset") [] d
    ++ item_errors context_errors (member_place [] (codes "linkset")) (items_in (codes "linkset") d)
