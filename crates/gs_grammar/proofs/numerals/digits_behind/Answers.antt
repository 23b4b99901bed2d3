use Rattle.std.proofs.Common.{arith, ◌<◌, ◌^◌, sym}
use Rattle.gs_grammar.proofs.Numbers.{count_of_digits, count_of_zero}
use Rattle.gs_grammar.proofs.numerals.digits_behind.Goals as goal

pub returns-in-Some-clause-count : goal.returns-in-Some-clause-count
returns-in-Some-clause-count c =
    let small : c.args.number < 2 ^ 64 = omega arith in
    sym (count_of_digits _ _ c.in-Some.ensures.power_le c.in-Some.ensures.next_power_gt small)

pub returns-in-None-clause-count : goal.returns-in-None-clause-count
returns-in-None-clause-count c = rw c.in-None.ensures.none (sym count_of_zero)

pub returns-in-None-clause-below : goal.returns-in-None-clause-below
returns-in-None-clause-below c = let none = c.in-None.ensures.none in omega arith
