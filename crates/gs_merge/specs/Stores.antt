-- The targets of merged stores at an anchor and a relation (RFC 9264, section 4.2). Those that are chosen for an identity
-- follow (GS1-Conformant Resolver). The laws are this project's own.
use Rattle.std.specs.Prelude.{◌≡◌, ℕ, Bool, false, true, max, List, codes, filter, Ok}
use Rattle.std.specs.List.{flat_map, list_any}
use Rattle.std.specs.Str.{bytes_eq}
use Rattle.gs_ai.specs.Tables.{KeepsRules}
use Rattle.gs_ai.specs.declared.row.AiRow.{AiRow}
use Rattle.gs_ident.specs.Elements.{Elements}
use Rattle.gs_linkset.specs.declared.link_types.Context.{Context}
use Rattle.gs_linkset.specs.declared.link_types.Target.{Target}
use Rattle.gs_links.specs.Choices.{chosen_at, chosen_depth}
use Rattle.gs_links.specs.Documents.{linked}
use Rattle.gs_links.specs.Loads.{keeps_names, links_of, load_answer}
use Rattle.gs_links.specs.declared.link.Link.{Link}
use Rattle.gs_links.specs.declared.link.Want.{Want}
use Rattle.gs_links.specs.declared.link.Want.TheVariants.{All, Relation}
use Rattle.gs_merge.specs.Distinct.{is_same_target}
use Rattle.gs_merge.specs.MergedDocuments.{links_at, links_by, targets_of}

-- trusted, own: holds if `links` are those of a store: a document that loads gives them
abbrev pub IsStore : List AiRow → List ℕ → List Link → Type 0
IsStore table voc links = (contexts : List Context) × (load_answer table voc contexts ≡ Ok links)

-- trusted, own: Holds if `contexts` load to their links, by each table and vocabulary by which `a` and `b` are the links of a
-- store. The table satisfies the rules, and the vocabulary keeps names.
abbrev pub LoadsForBoth : List Link → List Link → List Context → Type 0
LoadsForBoth a b contexts =
    (table : List AiRow) (voc : List ℕ) → KeepsRules table → keeps_names voc ≡ true → IsStore table voc a → IsStore table voc b
    → load_answer table voc contexts ≡ Ok (links_of table voc contexts)

-- trusted, own: the targets of the links of one anchor and one relation, in their order
abbrev pub targets_at : List Link → List ℕ → List ℕ → List Target
targets_at links text name = targets_of (links_by name (links_at text links))

-- trusted, RFC 9264, section 4.2: the targets that a document has at an anchor and a relation
abbrev pub targets_in : List Context → List ℕ → List ℕ → List Target
targets_in contexts text name =
    flat_map (λ relation. relation.targets)
    (filter (λ relation. bytes_eq relation.name name)
    (flat_map (λ context. context.relations) (filter (λ context. bytes_eq context.anchor text) contexts)))

-- trusted, own: holds if `target` is one of `targets`
abbrev pub has_target : List Target → Target → Bool
has_target targets target = list_any (is_same_target target) targets

-- trusted, own: the targets of the candidates with that many qualifiers, in the order of the store
abbrev pub chosen_targets : List Link → Elements → Want → ℕ → List Target
chosen_targets links identity want depth = targets_of (linked links (chosen_at links identity want depth))

-- trusted, own: holds if the request wants one relation, and it is not `anchor`
abbrev pub IsOfRelation : Want → Type 0
IsOfRelation All = ⊥
IsOfRelation (Relation wanted) = bytes_eq wanted.now (codes "anchor") ≡ false

-- trusted, own: the larger of the depths that are chosen of two stores; a store without candidates has depth 0, so it is that of the others
abbrev pub larger_depth : List Link → List Link → Elements → Want → ℕ
larger_depth a b identity want = max (chosen_depth a identity want) (chosen_depth b identity want)
