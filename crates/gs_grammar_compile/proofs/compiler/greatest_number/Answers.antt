use Rattle.std.proofs.Common.{◌≡◌, ℕ, ◌-◌, ◌*◌, ◌%◌, ◌^◌, ◌<◌, min, arith}
use Rattle.std.proofs.lemmas.Nat.{shl_whole}
use Rattle.gs_grammar_compile.specs.Tables.{digits_greatest}
use Rattle.gs_grammar_compile.proofs.AddedNumerals.{some_power}
use Rattle.gs_grammar_compile.proofs.compiler.greatest_number.Goals as goal

least_of_both : (bits n power least : ℕ) → bits < 64 → power ≡ 10 ^ n → least ≡ min (power - 1) ((1 * 2 ^ bits) % 18446744073709551616 - 1)
    → least ≡ digits_greatest bits n
least_of_both bits n power least narrow p e =
    let room : (1 * 2 ^ bits) % 18446744073709551616 ≡ 1 * 2 ^ bits = shl_whole 1 1 bits 64 (omega arith) (omega arith) in
    omega (arith, room)

pub overflow_sub-most : goal.overflow_sub-most
overflow_sub-most c = some_power _ _ c.pow-most.ensures

pub returns-then-bits-lt64 : goal.returns-then-bits-lt64
returns-then-bits-lt64 c = least_of_both c.args.bits c.args.n c.pow-most.result c.min.result c.if-bits-lt64.true
    (rw c.from.ensures at c.pow-most.ensures) c.min.ensures
