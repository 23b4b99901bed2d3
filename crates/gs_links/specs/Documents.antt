-- The document of chosen links: RFC 9264, section 4.2. That it has one context, with the canonical link of the links' anchor
-- (GS1 Digital Link URI Syntax, section 5), is this project's own rule.
use Rattle.std.specs.Prelude.{◌≡◌, ℕ, true, not, ◌&&◌, if◌then◌else◌, List, [], ◌∷◌, map, filter, fold, codes, slice_get, bytes_eq}
use Rattle.std.specs.Cmp.Lexicographic.{slice_cmp}
use Rattle.std.specs.List.{filter_map, list_any}
use Rattle.std.specs.Ordering.{match_ordering, nat_cmp}
use Rattle.gs_ident.specs.Links.{canonical_link}
use Rattle.gs_linkset.specs.LinkShapes.{ascend}
use Rattle.gs_linkset.specs.declared.link_types.Context.{Context}
use Rattle.gs_linkset.specs.declared.link_types.Relation.{Relation}
use Rattle.gs_linkset.specs.declared.link_types.Target.{Target}
use Rattle.gs_links.specs.declared.link.Link.{Link}

-- trusted, own: the links of numbers
abbrev pub linked : List Link → List ℕ → List Link
linked links numbers = filter_map (slice_get links) numbers

-- a name among names in ascending order, each once
abbrev pub put_name : List ℕ → List (List ℕ) → List (List ℕ)
put_name name [] = name ∷ []
put_name name (n ∷ names) =
    match_ordering (slice_cmp nat_cmp name n) (name ∷ n ∷ names) (n ∷ names) (n ∷ put_name name names)

-- `anchor` is not a relation's name
abbrev pub with_name : List (List ℕ) → Link → List (List ℕ)
with_name names link = if bytes_eq link.relation (codes "anchor") then names else put_name link.relation names

-- by law names_of_relations: the names of the links' relations, in ascending order
abbrev pub names_of : List Link → List (List ℕ)
names_of links = fold with_name [] links

-- trusted, own: holds if the names ascend, and are those of the links' relations except `anchor`
pub record AreNamesOf (links : List Link) (names : List (List ℕ)) : Type 0 where
  pub ascending : ascend names ≡ true
  pub exact : (name : List ℕ) → list_any (λ n. bytes_eq n name) names ≡ (not (bytes_eq name (codes "anchor")) && list_any (λ link. bytes_eq link.relation name) links)

-- trusted, own: the targets of a relation, in the order of the links
abbrev pub targets_of : List Link → List ℕ → List Target
targets_of links name = map (λ link. link.target) (filter (λ link. bytes_eq link.relation name) links)

-- trusted, own: the relation `name` with its targets
abbrev pub relation_of : List Link → List ℕ → Relation
relation_of links name = record { name = name; targets = targets_of links name }

-- trusted, own: the relations of the links, in ascending order of name
abbrev pub relations_of : List Link → List Relation
relations_of links = map (relation_of links) (names_of links)

-- trusted, RFC 9264, section 4.2; GS1 Digital Link URI Syntax, section 5; that it is one context is own: the document of
-- links with one anchor
abbrev pub document_of : List Link → List Context
document_of [] = []
document_of (link ∷ links) = record { anchor = canonical_link link.anchor; relations = relations_of (link ∷ links) } ∷ []
