use Rattle.std.proofs.Common.{arith, ◌<◌, ◌^◌}
use Rattle.std.proofs.lemmas.Result.{IfOk-weaker}
use Rattle.gs_grammar.proofs.Numbers.{below_count, padded_decimal}
use Rattle.gs_grammar.proofs.numerals.decimal_text.Goals as goal

pub padded-requires-clause-fits : goal.padded-requires-clause-fits
padded-requires-clause-fits c =
    let small : c.args.number < 2 ^ 64 = omega arith in
    rw c.digit_count-count.ensures.count (below_count c.args.number small)

pub returns : goal.returns
returns c =
    let small : c.args.number < 2 ^ 64 = omega arith in
    IfOk-weaker _ _ _ (λ digits. padded_decimal c.args.number _ digits small c.digit_count-count.ensures.count) c.padded.ensures
