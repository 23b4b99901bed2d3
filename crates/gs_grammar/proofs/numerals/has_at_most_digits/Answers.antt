use Rattle.std.proofs.Common.{◌≡◌, ◌↔◌, ℕ, ◌^◌, ◌<◌, true, ltb, arith}
use Rattle.std.proofs.lemmas.Bool.{ltb-true}
use Rattle.std.proofs.lemmas.Bool.Decides.{nat_tests}
use Rattle.gs_grammar.proofs.numerals.has_at_most_digits.Goals as goal

is_below : (a b : ℕ) → a < b → ltb a b ≡ true
is_below a b h = grind (arith, nat_tests)

below_power : (number n power : ℕ) → power ≡ 10 ^ n → (ltb number power ≡ true) ↔ (number < 10 ^ n)
below_power number n power e = rw e (ltb-true number (10 ^ n), is_below number (10 ^ n))

pub returns : goal.returns
returns c = below_power c.args.number c.args.n c.power_of_ten.result (rw c.from.ensures at c.power_of_ten.ensures)
