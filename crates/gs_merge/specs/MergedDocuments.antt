-- The merged document of the links of stores (RFC 9264, section 4.2). An anchor is written only by its canonical link (GS1
-- Digital Link URI Syntax, section 5). No standard says how link documents are merged: this is the project's own.
use Rattle.std.specs.Prelude.{ℕ, Bool, not, nat_lt, if◌then◌else◌, List, [], ◌++◌, codes, filter, fold, map, Result, Ok, Err}
use Rattle.std.specs.BTreeSet.{insert_key}
use Rattle.std.specs.Cmp.Lexicographic.{slice_cmp}
use Rattle.std.specs.Ordering.{nat_cmp}
use Rattle.std.specs.Str.{bytes_eq}
use Rattle.gs_ident.specs.Links.{canonical_link}
use Rattle.gs_linkset.specs.declared.link_types.Context.{Context}
use Rattle.gs_linkset.specs.declared.link_types.Relation.{Relation}
use Rattle.gs_linkset.specs.declared.link_types.Target.{Target}
use Rattle.gs_links.specs.Loads.{targets_count}
use Rattle.gs_links.specs.Shapes.{most_links}
use Rattle.gs_links.specs.declared.link.Link.{Link}
use Rattle.gs_merge.specs.Distinct.{distinct}
use Rattle.gs_merge.specs.declared.error.MergeFault.{MergeFault}
use Rattle.gs_merge.specs.declared.error.MergeFault.TheVariants.{TooMany}

-- trusted, own: the texts in ascending order of their bytes, each once
abbrev pub ascending : List (List ℕ) → List (List ℕ)
ascending texts = fold (insert_key (slice_cmp nat_cmp)) [] texts

-- trusted, GS1 Digital Link URI Syntax, section 5: the text of a link's anchor is its canonical link
abbrev pub anchor_text : Link → List ℕ
anchor_text link = canonical_link link.anchor

-- trusted, RFC 9264, section 4.2.2: the links with a relation that a document can have, that is, other than `anchor`
abbrev pub with_relation : List Link → List Link
with_relation links = filter (λ link. not (bytes_eq link.relation (codes "anchor"))) links

-- trusted, own: the links of one anchor
abbrev pub links_at : List ℕ → List Link → List Link
links_at text links = filter (λ link. bytes_eq (anchor_text link) text) links

-- trusted, own: the links of one relation
abbrev pub links_by : List ℕ → List Link → List Link
links_by name links = filter (λ link. bytes_eq link.relation name) links

-- trusted, own: the targets of links, in their order
abbrev pub targets_of : List Link → List Target
targets_of links = map (λ link. link.target) links

-- trusted, RFC 9264, section 4.2.3: the relation `name` with the targets of its links, each equal one once
abbrev pub relation_with : List Link → List ℕ → Relation
relation_with links name = record { name = name; targets = distinct (targets_of (links_by name links)) }

-- trusted, RFC 9264, section 4.2.2: the relations of links, in ascending order of name
abbrev pub relations_of : List Link → List Relation
relations_of links = map (relation_with links) (ascending (map (λ link. link.relation) links))

-- trusted, RFC 9264, section 4.2.2: the context of the anchor `text` with the relations of its links
abbrev pub context_with : List Link → List ℕ → Context
context_with links text = record { anchor = text; relations = relations_of (links_at text links) }

-- trusted, RFC 9264, section 4.2.1: the contexts of links, in ascending order of anchor
unfoldable pub contexts_of : List Link → List Context
contexts_of links = map (context_with links) (ascending (map anchor_text links))

-- trusted, own: the merged document of two stores: of the links of the first and then those of the second
unfoldable pub merged : List Link → List Link → List Context
merged a b = contexts_of (with_relation (a ++ b))

-- trusted, own: holds if `contexts` have more targets than a store may have links
abbrev pub is_too_many : List Context → Bool
is_too_many contexts = nat_lt most_links (targets_count contexts)

-- trusted, own: the answer of merging
unfoldable pub merge_answer : List Link → List Link → Result (List Context) MergeFault
merge_answer a b = if is_too_many (merged a b) then Err TooMany else Ok (merged a b)
