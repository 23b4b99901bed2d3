use Rattle.std.proofs.Common.{arith, ◌≡◌, ◌≤◌, ◌^◌, ◌+◌, ◌*◌, ◌-◌, get_or}
use Rattle.gs_grammar.proofs.Numbers.{too_great, after_is, value_more, value_whole}
use Rattle.gs_grammar.proofs.numerals.wide_number_behind.Goals as goal

pub returns-in_err-number : goal.returns-in_err-number
returns-in_err-number c =
    let large : 2 ^ 256 ≤ 10 * c.loop-digit.number + (get_or c.args.digits.now c.loop-digit.digit-index 0 - 48) =
    let e = c.in_err-number.ensures in let m = c.saturating_sub.ensures in omega arith in
    rw c.from_residual.ensures (too_great _ _ _ _ _ c.loop-digit-test.true c.loop-digit.invariant.value large)

pub loop-digit-init : goal.loop-digit-init
loop-digit-init c = rw c.from_digit-number.ensures (record { value = after_is _ _; small = omega arith })

pub loop-digit-preserved : goal.loop-digit-preserved
loop-digit-preserved c =
    let value : c.in_ok-number.number ≡ 10 * c.loop-digit.number + (get_or c.args.digits.now c.loop-digit.digit-index 0 - 48) =
    let e = c.in_ok-number.ensures.1 in let m = c.saturating_sub.ensures in omega arith in
    record {
      value = value_more _ _ _ _ _ c.loop-digit-test.true c.loop-digit.invariant.value value;
      small = let e = c.in_ok-number.ensures in omega arith;
    }

pub returns : goal.returns
returns c =
    let whole = value_whole _ _ _ _ c.loop-digit-test.false c.loop-digit.invariant.value in
    (rw (← whole) c.loop-digit.invariant.small, whole)
