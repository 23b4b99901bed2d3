-- Links that are lent, and the links that they are.
use Rattle.std.proofs.Common.{◌≡◌, Bool, true, codes, List, [], ◌∷◌, map, refl, sym, ap, ◌∙◌}
use Rattle.std.specs.List.{list_all}
use Rattle.std.proofs.lemmas.List.Folds.{list_all-map}
use Rattle.std.proofs.lemmas.Simd.{map-map}
use Rattle.serde_json.specs.Data.{Data, array, member}
use Rattle.serde_json.specs.View.{items_of as listed}
use Rattle.gs_linkset.specs.LentLinks.{relation_lent}
use Rattle.gs_linkset.specs.LinkShapes.{is_relation}
use Rattle.gs_linkset.specs.WrittenTokens.{is_other}
use Rattle.gs_linkset.specs.WrittenTrees.{array_by, members_by, relation_members, target_tree}
use Rattle.gs_linkset.specs.declared.link_types.Relation.{Relation}
use Rattle.gs_linkset.specs.declared.link_types.RelationRef.{RelationRef}
use Rattle.gs_linkset.proofs.TokenLemmas.{relations_other}

-- things that are lent have the shape that they have
pub all_lent : {X Y : Type 0} (shape : Y → Bool) (now : X → Y) (xs : List X) → list_all shape (map now xs) ≡ true → list_all (λ x. shape (now x)) xs ≡ true
all_lent shape now xs h = sym (list_all-map shape now xs) ∙ h

pub array_lent : {X Y : Type 0} (tree : Y → Data) (now : X → Y) (xs : List X) → array_by (λ x. tree (now x)) xs ≡ array_by tree (map now xs)
array_lent tree now xs = ap (λ ds. array (listed ds)) (sym (map-map tree now xs))

pub members_lent : (relations : List RelationRef)
    → members_by (λ relation. relation.name.now) (λ relation. array_by target_tree (relation_lent relation).targets) relations ≡ relation_members (map relation_lent relations)
members_lent [] = refl
members_lent (relation ∷ relations) = ap (λ ms. member relation.name.now (array_by target_tree (relation_lent relation).targets) ms) (members_lent relations)

pub lent_other : (relations : List RelationRef) → list_all is_relation (map relation_lent relations) ≡ true
    → list_all (is_other (codes "anchor")) (map (λ relation. relation.name.now) relations) ≡ true
lent_other relations h =
    sym (ap (list_all (is_other (codes "anchor"))) (map-map (λ (relation : Relation). relation.name) relation_lent relations)) ∙ relations_other (map relation_lent relations) h
