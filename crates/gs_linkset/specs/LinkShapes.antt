-- The shape of the links that a document in JSON can have (RFC 9264, section 4.2).
use Rattle.std.specs.Prelude.{ℕ, Bool, true, not, ◌&&◌, List, [], ◌∷◌, map, codes, position, Result, Ok, Err}
use Rattle.std.specs.Cmp.Lexicographic.{slice_cmp}
use Rattle.std.specs.List.{flat_map, list_all}
use Rattle.std.specs.Option.{option_map_or}
use Rattle.std.specs.Ordering.{is_lt, nat_cmp}
use Rattle.std.specs.Str.{bytes_eq, is_utf8}
use Rattle.gs_linkset.specs.Attributes.{is_single, is_tagged}
use Rattle.gs_linkset.specs.declared.link_types.Attr.{Attr}
use Rattle.gs_linkset.specs.declared.link_types.AttrValue.{AttrValue}
use Rattle.gs_linkset.specs.declared.link_types.AttrValue.TheVariants.{One, Many, Tagged}
use Rattle.gs_linkset.specs.declared.link_types.Context.{Context}
use Rattle.gs_linkset.specs.declared.link_types.Relation.{Relation}
use Rattle.gs_linkset.specs.declared.link_types.Target.{Target}
use Rattle.gs_linkset.specs.declared.doc.DocFault.{DocFault}
use Rattle.gs_linkset.specs.declared.doc.DocFault.TheVariants.{Shape}

-- trusted, own: holds if `a` is below `b` by its bytes
abbrev pub is_below : List ℕ → List ℕ → Bool
is_below a b = is_lt (slice_cmp nat_cmp a b)

-- trusted, own: holds if `a` is below the first of the names, if there is one
abbrev pub is_below_first : List ℕ → List (List ℕ) → Bool
is_below_first a [] = true
is_below_first a (b ∷ names) = is_below a b

-- trusted, own: holds if each name is below the next
abbrev pub ascend : List (List ℕ) → Bool
ascend [] = true
ascend (a ∷ names) = is_below_first a names && ascend names

-- trusted, own: holds if a text and its language are valid UTF-8
abbrev pub is_tagged_text : List ℕ × List ℕ → Bool
is_tagged_text pair = is_utf8 pair.0 && is_utf8 pair.1

-- trusted, RFC 9264, sections 4.2.2 to 4.2.4: holds if the value is of the kind of `name`, and its texts are valid UTF-8
abbrev pub is_value : List ℕ → AttrValue → Bool
is_value name (One text) = not (is_tagged name) && (is_single name && is_utf8 text)
is_value name (Many texts) = not (is_tagged name) && (not (is_single name) && list_all is_utf8 texts)
is_value name (Tagged pairs) = is_tagged name && list_all is_tagged_text pairs

-- trusted, RFC 9264, sections 4.2.2 to 4.2.4: holds if the name of `attr` is not `href`, its texts are valid UTF-8, and its
-- value is of the kind of its name
unfoldable pub is_attr : Attr → Bool
is_attr attr = not (bytes_eq attr.name (codes "href")) && (is_utf8 attr.name && is_value attr.name attr.value)

-- trusted, RFC 9264, sections 4.2.2 to 4.2.4: holds if the texts of `target` are valid UTF-8, and its attributes have their
-- shape and ascend by name
unfoldable pub is_target : Target → Bool
is_target target = is_utf8 target.href && (ascend (map (λ attr. attr.name) target.attrs) && list_all is_attr target.attrs)

-- trusted, RFC 9264, sections 4.2.2 to 4.2.4: holds if the name of `relation` is valid UTF-8 and not `anchor`, and its targets
-- have their shape
unfoldable pub is_relation : Relation → Bool
is_relation relation = not (bytes_eq relation.name (codes "anchor")) && (is_utf8 relation.name && list_all is_target relation.targets)

-- trusted, own: the names of the relations
abbrev pub relation_names : List Relation → List (List ℕ)
relation_names relations = map (λ relation. relation.name) relations

-- trusted, RFC 9264, section 4.2; RFC 8259, section 8.1: holds if the anchor of `context` is valid UTF-8, and its relations
-- have their shape and ascend by name
unfoldable pub is_context : Context → Bool
is_context context =
    is_utf8 context.anchor
    && (ascend (relation_names context.relations) && list_all is_relation context.relations)

-- trusted, own: the document of the contexts, or the index of the first that breaks the shape
unfoldable pub new_answer : List Context → Result (List Context) DocFault
new_answer contexts = option_map_or (λ i. Err (Shape i)) (position (λ c. not (is_context c)) contexts) (Ok contexts)

-- trusted, RFC 9264, section 4.2: the links of a relation, each with the anchor, the relation type and its target
abbrev pub links_of_relation : List ℕ → Relation → List (List ℕ × List ℕ × Target)
links_of_relation anchor relation = map (λ target. (anchor, relation.name, target)) relation.targets

-- trusted, RFC 9264, section 4.2: the links of a context, in the order of its relations
abbrev pub links_of_context : Context → List (List ℕ × List ℕ × Target)
links_of_context context = flat_map (links_of_relation context.anchor) context.relations

-- trusted, own: the links of the contexts, in their order
abbrev pub links_of_document : List Context → List (List ℕ × List ℕ × Target)
links_of_document contexts = flat_map links_of_context contexts
