-- The parts of a document that filling its target URIs leaves unchanged.
use Rattle.std.proofs.Common.{◌≡◌, List, [], ◌∷◌, map, refl, ap}
use Rattle.gs_ident.specs.Elements.{Elements}
use Rattle.gs_linkset.specs.LinkShapes.{relation_names}
use Rattle.gs_linkset.specs.declared.link_types.Relation.{Relation}
use Rattle.gs_http.specs.References.{relation_for}

-- relations keep their names
pub same_names : (identity : Elements) (relations : List Relation) → relation_names (map (relation_for identity) relations) ≡ relation_names relations
same_names identity [] = refl
same_names identity (relation ∷ relations) = ap (λ names. relation.name ∷ names) (same_names identity relations)
