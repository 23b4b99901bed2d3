use Rattle.std.proofs.Common.{◌≡◌, ◌==◌, true, List, [], ◌∷◌, ◌∙◌, length, Ok, refl, true≢false, ne_eqb, arith}
use Rattle.gs_ai.specs.Tables.{is_empty}
use Rattle.gs_ident.specs.Elements.{Elements}
use Rattle.gs_links.specs.Loads.{without_attributes}
use Rattle.gs_links.proofs.anchors.without_attributes.Goals as goal

empty : {X : Type 0} (xs : List X) → true ≡ (length xs == 0) → is_empty xs ≡ true
empty [] h = refl
empty (x ∷ xs) h = absurd (true≢false (h ∙ ne_eqb (length (x ∷ xs)) 0 (λ e. omega arith)))

no_attributes : (identity : Elements) → is_empty identity.attributes ≡ true → Ok identity ≡ without_attributes identity
no_attributes identity none = rw none refl

pub returns-then-is_empty-clause-answer : goal.returns-then-is_empty-clause-answer
returns-then-is_empty-clause-answer c = no_attributes c.args.identity (empty c.args.identity.attributes (rw c.attributes.ensures at c.if-is_empty.ensures))
