use Rattle.std.proofs.Common.{arith, sym, ◌<◌, ◌^◌}
use Rattle.gs_grammar.proofs.NumberWords.{decimal_digits, behind_digits}
use Rattle.gs_grammar.proofs.number_words.digit_count_of_value.Goals as goal

pub returns-in-Num-clause-digits : goal.returns-in-Num-clause-digits
returns-in-Num-clause-digits c =
    let small : c.args.number < 2 ^ 64 = omega arith in
    rw c.in-Num.is (sym (decimal_digits c.args.number _ small c.digit_count.ensures.count))

pub returns-in-NumStr-clause-digits : goal.returns-in-NumStr-clause-digits
returns-in-NumStr-clause-digits c =
    let small : c.args.number < 2 ^ 64 = omega arith in
    rw c.in-NumStr.is (behind_digits c.args.number _ small c.digits_behind.ensures.count)
