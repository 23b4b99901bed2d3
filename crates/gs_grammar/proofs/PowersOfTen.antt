-- The table of powers of ten.
use Rattle.std.proofs.Common.{◌≡◌, ℕ, ◌<◌, ◌^◌, Bool, true, eqb, get_or, refl}
use Rattle.std.proofs.lemmas.Bool.{agree_below, agree_below_at, eqb-true}
use Rattle.gs_grammar.specs.declared.numerals.TheConstants.{POWERS_OF_TEN}

abbrev in_table : ℕ → Bool
in_table n = eqb (get_or POWERS_OF_TEN n 0) (10 ^ n)

table : agree_below in_table (λ _. true) 20 ≡ true
table = refl

pub power_at : (n : ℕ) → n < 20 → get_or POWERS_OF_TEN n 0 ≡ 10 ^ n
power_at n h = eqb-true _ _ (agree_below_at in_table (λ _. true) 20 n table h)
