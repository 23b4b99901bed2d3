-- How the links of a linkset are loaded. The anchors are GS1 Digital Links (GS1 Digital Link URI Syntax, section 3) of a key
-- and its qualifiers. The limits and the order of the rejections are this project's own.
use Rattle.std.specs.Prelude.{ℕ, Bool, not, ◌&&◌, ◌==◌, nat_le, nat_lt, if◌then◌else◌, List, [], ◌∷◌, ◌++◌, map, length, drop, codes, position, Option, Result, Ok, Err}
use Rattle.std.specs.List.{enumerate_from, flat_map, list_all, starts_with}
use Rattle.std.specs.Option.{option_map_or}
use Rattle.gs_ai.specs.Tables.{is_empty}
use Rattle.gs_chars.specs.Answers.{first_or}
use Rattle.gs_chars.specs.Characters.{is_visible}
use Rattle.gs_ai.specs.declared.pair.Pair.{Pair}
use Rattle.gs_ai.specs.declared.row.AiRow.{AiRow}
use Rattle.gs_dlink.specs.Answers.{link_answer, target_answer}
use Rattle.gs_dlink.specs.declared.error.LinkFault.{LinkFault}
use Rattle.gs_ident.specs.Elements.{Elements}
use Rattle.gs_ident.specs.Identities.{identity_of_pairs}
use Rattle.gs_ident.specs.declared.errors.IdentFault.{IdentFault}
use Rattle.gs_linkset.specs.LinkShapes.{links_of_context}
use Rattle.gs_linkset.specs.declared.link_types.Context.{Context}
use Rattle.gs_linkset.specs.declared.link_types.Relation.{Relation}
use Rattle.gs_linkset.specs.declared.link_types.Target.{Target}
use Rattle.gs_links.specs.Shapes.{most_links}
use Rattle.gs_links.specs.declared.error.AnchorWhy.{AnchorWhy}
use Rattle.gs_links.specs.declared.error.AnchorWhy.TheVariants.{Link as NoLink, Ident, Attributes}
use Rattle.gs_links.specs.declared.error.StoreFault.{StoreFault}
use Rattle.gs_links.specs.declared.error.StoreFault.TheVariants.{TooMany, BadAnchor, BadHref}
use Rattle.gs_links.specs.declared.link.Link.{Link}

-- ---- anchors

-- trusted, own: holds if `text` begins with a slash
abbrev pub is_path : List ℕ → Bool
is_path text = starts_with (λ a b. a == b) text (codes "/")

-- trusted, own: the pairs that an anchor names: by the rule for request targets if it begins with a slash, otherwise by that
-- for links
unfoldable pub pairs_answer : List AiRow → List ℕ → Result (List Pair) LinkFault
pairs_answer table text = if is_path text then target_answer table 0 text else link_answer table text

-- trusted, own: the identity if it has no attributes, which no anchor has, otherwise the error
abbrev pub without_attributes : Elements → Result Elements AnchorWhy
without_attributes identity = if is_empty identity.attributes then Ok identity else Err Attributes

-- trusted, own: the identity without attributes, or why it is not an anchor
abbrev pub by_identity : Result Elements IdentFault → Result Elements AnchorWhy
by_identity (Ok identity) = without_attributes identity
by_identity (Err error) = Err (Ident error)

-- trusted, own: the identity of the pairs of a link, or why they are not an anchor
abbrev pub by_pairs : List AiRow → Result (List Pair) LinkFault → Result Elements AnchorWhy
by_pairs table (Ok pairs) = by_identity (identity_of_pairs table pairs)
by_pairs table (Err error) = Err (NoLink error)

-- trusted, GS1 Digital Link URI Syntax, section 3; that it has no attributes is own: the identity of an anchor, or why it
-- has none
unfoldable pub anchor_answer : List AiRow → List ℕ → Result Elements AnchorWhy
anchor_answer table text = by_pairs table (pairs_answer table text)

-- ---- rejections

-- trusted, own: holds if `text` is 1 to 2,048 visible characters
unfoldable pub is_reference : List ℕ → Bool
is_reference text = nat_le 1 (length text) && (nat_le (length text) 2048 && list_all is_visible text)

-- trusted, own: the number of the first target whose `href` is invalid
abbrev pub bad_target : Relation → Option ℕ
bad_target relation = position (λ target. not (is_reference target.href)) relation.targets

-- trusted, own: the error of a relation: its first target whose `href` is not a reference
abbrev pub relation_errors : ℕ → ℕ → Relation → List StoreFault
relation_errors i r relation = option_map_or (λ t. BadHref i r t ∷ []) (bad_target relation) []

-- trusted, own: the errors of relations, in their order
abbrev pub relations_errors : ℕ → List Relation → List StoreFault
relations_errors i relations = flat_map (λ row. relation_errors i row.0 row.1) (enumerate_from 0 relations)

-- trusted, own: the error of an anchor, if it is invalid
abbrev pub anchor_errors : ℕ → Result Elements AnchorWhy → List StoreFault
anchor_errors i (Ok _) = []
anchor_errors i (Err why) = BadAnchor i why ∷ []

-- trusted, own: the errors of a context: its anchor's, then its relations'
unfoldable pub context_errors : List AiRow → ℕ → Context → List StoreFault
context_errors table i context = anchor_errors i (anchor_answer table context.anchor) ++ relations_errors i context.relations

-- trusted, own: the number of targets of all contexts
abbrev pub targets_count : List Context → ℕ
targets_count contexts = length (flat_map (λ context. flat_map (λ relation. relation.targets) context.relations) contexts)

-- trusted, own: the list of the error of too many targets, if there are too many
abbrev pub count_errors : List Context → List StoreFault
count_errors contexts = if nat_lt most_links (targets_count contexts) then TooMany ∷ [] else []

-- trusted, own: the list of all rejections in the order of the reports
unfoldable pub store_errors : List AiRow → List Context → List StoreFault
store_errors table contexts =
    count_errors contexts ++ flat_map (λ row. context_errors table row.0 row.1) (enumerate_from 0 contexts)

-- ---- links

-- trusted, own: the relation `name`, in which a first `gs1:` is replaced by the vocabulary `voc`
unfoldable pub expanded : List ℕ → List ℕ → List ℕ
expanded voc name = if starts_with (λ a b. a == b) name (codes "gs1:") then voc ++ drop 4 name else name

-- trusted, own: Holds if neither `gs1:` nor the vocabulary `voc` begins with the other. Then an expanded relation does not
-- begin with `gs1:`.
unfoldable pub keeps_names : List ℕ → Bool
keeps_names voc =
    not (starts_with (λ a b. a == b) voc (codes "gs1:")) && not (starts_with (λ a b. a == b) (codes "gs1:") voc)

-- trusted, own: the link of an identity by `relation` to `target`
abbrev pub link_with : Elements → List ℕ → Target → Link
link_with anchor relation target = record { anchor = anchor; relation = relation; target = target }

-- trusted, own: the links of a relation, its name expanded, to its targets
abbrev pub relation_links : List ℕ → Elements → Relation → List Link
relation_links voc anchor relation = map (link_with anchor (expanded voc relation.name)) relation.targets

-- trusted, own: the links of relations at an anchor, none if it is not an anchor
abbrev pub links_by : List ℕ → List Relation → Result Elements AnchorWhy → List Link
links_by voc relations (Ok anchor) = flat_map (relation_links voc anchor) relations
links_by voc relations (Err why) = []

-- trusted, RFC 9264, section 4.2: the links of a context
unfoldable pub context_links : List AiRow → List ℕ → Context → List Link
context_links table voc context = links_by voc context.relations (anchor_answer table context.anchor)

-- trusted, RFC 9264, section 4.2: the links, in the order of the document
unfoldable pub links_of : List AiRow → List ℕ → List Context → List Link
links_of table voc contexts = flat_map (context_links table voc) contexts

-- trusted, own: holds if `context` has a link
abbrev pub has_link : Context → Bool
has_link context = not (is_empty (links_of_context context))

-- ---- the answer

-- trusted, own: the answer of a load: the first error, or the links
unfoldable pub load_answer : List AiRow → List ℕ → List Context → Result (List Link) StoreFault
load_answer table voc contexts = first_or (store_errors table contexts) (links_of table voc contexts)
