use Rattle.std.proofs.Common.{arith, refl, true, rules, ◌≡◌, ◌≤◌, ◌^◌, ◌+◌, ◌*◌, ◌-◌, get_or}
use Rattle.gs_chars.specs.Characters.{is_digit}
use Rattle.gs_grammar.proofs.Numbers.{too_great, after_is, digits_more, digits_whole, value_more, value_whole}
use Rattle.gs_grammar.proofs.numerals.number_of_digits.Goals as goal

pub returns-in_err-shifted : goal.returns-in_err-shifted
returns-in_err-shifted c =
    let large : 2 ^ 64 ≤ 10 * c.loop-symbol.number + (get_or c.args.symbols.now c.loop-symbol.symbol-index 0 - 48) =
    let e = c.in_err-shifted.ensures in omega arith in
    rw c.from_residual.ensures (λ h. too_great _ _ _ _ _ c.loop-symbol-test.true c.loop-symbol.invariant.value large h.1)

pub returns-in_err-number : goal.returns-in_err-number
returns-in_err-number c =
    let large : 2 ^ 64 ≤ 10 * c.loop-symbol.number + (get_or c.args.symbols.now c.loop-symbol.symbol-index 0 - 48) =
    let e = c.in_err-number.ensures in let s = c.in_ok-shifted.ensures.1 in let f = c.from.ensures in omega arith in
    rw c.from_residual-in_err-number.ensures (λ h. too_great _ _ _ _ _ c.loop-symbol-test.true c.loop-symbol.invariant.value large h.1)

pub loop-symbol-init : goal.loop-symbol-init
loop-symbol-init c = record { digits = refl; value = rw c.from-number.ensures (after_is _ _); small = omega arith }

pub loop-symbol-preserved : goal.loop-symbol-preserved
loop-symbol-preserved c =
    let digit : is_digit (get_or c.args.symbols.now c.loop-symbol.symbol-index 0) ≡ true = search rules in
    let value : c.in_ok-number.number ≡ 10 * c.loop-symbol.number + (get_or c.args.symbols.now c.loop-symbol.symbol-index 0 - 48) =
    let e = c.in_ok-number.ensures.1 in let s = c.in_ok-shifted.ensures.1 in let f = c.from.ensures in omega arith in
    record {
      digits = digits_more _ _ c.loop-symbol-test.true digit c.loop-symbol.invariant.digits;
      value = value_more _ _ _ _ _ c.loop-symbol-test.true c.loop-symbol.invariant.value value;
      small = let e = c.in_ok-number.ensures in omega arith;
    }

pub returns : goal.returns
returns c =
    let whole = value_whole _ _ _ _ c.loop-symbol-test.false c.loop-symbol.invariant.value in
    ((digits_whole _ _ c.loop-symbol-test.false c.loop-symbol.invariant.digits, rw (← whole) c.loop-symbol.invariant.small), whole)
