use Rattle.std.proofs.Common.{arith}
use Rattle.gs_grammar.proofs.Ones.{counted, none_behind, power_small}
use Rattle.gs_grammar.proofs.numerals.digits_behind_one.Goals as goal
use Rattle.gs_grammar.proofs.numerals.digits_behind_one.Goals.{then-count-eq0-via-then-count-eq0, then-count-eq0-via-else-count-eq0+then-count-from}

pub returns-then-count-eq0-clause-none : goal.returns-then-count-eq0-clause-none
returns-then-count-eq0-clause-none c =
    none_behind c.digits_behind-count.result c.args.most c.args.number c.digits_behind-count.ensures.from c.digits_behind-count.ensures.below
    (λ some few below. elim c.then-count-eq0.branch [
      | then-count-eq0-via-then-count-eq0 w ↦ let t = w.if-count-eq0.true in omega arith
      | then-count-eq0-via-else-count-eq0+then-count-from w ↦ let t = w.if-count-from.true in let f = w.from.ensures in omega arith
    ])

pub overflow_mul-power_of_ten : goal.overflow_mul-power_of_ten
overflow_mul-power_of_ten c =
    let few = c.requires in
    let low = c.if-count-from.false in
    let from = c.from.ensures in
    let small = power_small c.power_of_ten.result c.digits_behind-count.result (omega arith) c.power_of_ten.ensures in
    let most = small.1 in
    omega arith

pub returns-then-number-power_of_ten-clause-none : goal.returns-then-number-power_of_ten-clause-none
returns-then-number-power_of_ten-clause-none c =
    let power = c.power_of_ten.ensures in
    let high = c.if-number-power_of_ten.true in
    none_behind c.digits_behind-count.result c.args.most c.args.number c.digits_behind-count.ensures.from c.digits_behind-count.ensures.below (λ some few below. omega arith)

pub returns-clause-digits : goal.returns-clause-digits
returns-clause-digits c =
    let some = c.if-count-eq0.false in
    let below = c.digits_behind-count.ensures.below in
    let power = c.power_of_ten.ensures in
    let small = c.if-number-power_of_ten.false in
    counted c.digits_behind-count.result c.args.number (omega arith) c.digits_behind-count.ensures.count c.digits_behind-count.ensures.from (omega arith)
