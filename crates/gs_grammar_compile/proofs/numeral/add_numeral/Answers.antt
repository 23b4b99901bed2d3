use Rattle.std.proofs.Common.{arith, ◌<◌, ◌^◌}
use Rattle.gs_grammar_compile.proofs.AddedRows.{ok_follows}
use Rattle.gs_grammar_compile.proofs.AddedNumerals.{some_power, first_digit_small, next_rest, numeral_added}
use Rattle.gs_grammar_compile.proofs.numeral.add_numeral.Goals as goal

pub nonzero_div-digit : goal.nonzero_div-digit
nonzero_div-digit c = some_power _ _ c.pow-power.ensures

pub overflow_cast-digit : goal.overflow_cast-digit
overflow_cast-digit c =
    let small : c.args.greatest < 2 ^ 64 = omega arith in
    let digit = first_digit_small _ _ _ small c.digits_behind-behind.ensures.count c.pow-power.ensures in
    record { fits = omega arith }

pub add_tight_state-requires-clause-digit : goal.add_tight_state-requires-clause-digit
add_tight_state-requires-clause-digit c =
    let small : c.args.greatest < 2 ^ 64 = omega arith in
    first_digit_small _ _ _ small c.digits_behind-behind.ensures.count c.pow-power.ensures

pub nonzero_rem-greatest : goal.nonzero_rem-greatest
nonzero_rem-greatest c = some_power _ _ c.pow-power.ensures

pub add_tight-requires-clause-digits : goal.add_tight-requires-clause-digits
add_tight-requires-clause-digits c = next_rest _ _ _ c.pow-power.ensures

pub returns : goal.returns
returns c =
    ok_follows _ _ (λ _ e n m. numeral_added _ _ _ _ n _ _ _ _ c.digits_behind-behind.ensures.count c.pow-power.ensures c.in_ok-end.ensures c.in_ok-add_tight_state.ensures c.in_ok-add_tight.ensures e m) c.add_free.result c.add_free.ensures
