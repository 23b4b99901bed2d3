use Rattle.std.proofs.Common.{◌≡◌, ℕ, List, [], ◌∷◌, true, false, length, map, refl, sym, arith, string_bytes}
use Rattle.std.specs.Prelude.{◌==◌}
use Rattle.std.specs.Borrow.{Bor}
use Rattle.std.proofs.lemmas.Bool.{eqb-true}
use Rattle.tdl_arguments.specs.CommandReads.{stands_before}
use Rattle.tdl_arguments.proofs.arguments.+stands_before.Goals as goal

none_before : {X Y : Type 0} (f : X → List ℕ) (g : Y → List ℕ) (front : List X) (words : List Y) → false ≡ (length front == 0)
    → true ≡ (length words == 0) → false ≡ stands_before (map f front) (map g words)
none_before f g [] words some none = absurd (let e : false ≡ true = some in cc)
none_before f g (x ∷ front) [] some none = refl
none_before f g (x ∷ front) (y ∷ words) some none = absurd (let n : length (y ∷ words) ≡ 0 = eqb-true (length (y ∷ words)) 0 (sym none) in omega arith)

pub returns-then-is_empty-2 : goal.returns-then-is_empty-2
returns-then-is_empty-2 t c = none_before (λ (word : Bor (List ℕ)). word.now) string_bytes c.args.front.now c.args.words.now c.if-is_empty.ensures c.if-is_empty-2.ensures
