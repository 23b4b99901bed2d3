use Rattle.std.proofs.Common.{◌≡◌, ◌==◌, ℕ, Bool, true, false, List, [], ◌∷◌, ◌++◌, length, suc, append-nil, sym, arith, ◌∙◌}
use Rattle.std.proofs.lemmas.Bool.Decides.{nat_tests}
use Rattle.gs_epc.proofs.layout.push_some.Goals as goal

not_none : (n : ℕ) → (suc n == 0) ≡ false
not_none n = grind (arith, nat_tests)

nothing_behind : (value text : List ℕ) (none : Bool) → none ≡ (length text == 0) → none ≡ true → value ≡ value ++ text
nothing_behind value [] none e h = sym (append-nil value)
nothing_behind value (x ∷ text) none e h = absurd (let f : none ≡ false = e ∙ not_none (length text) in cc)

pub returns-then-is_empty : goal.returns-then-is_empty
returns-then-is_empty c = nothing_behind c.args.value.now c.args.text.now _ c.is_empty.ensures c.if-is_empty.true
