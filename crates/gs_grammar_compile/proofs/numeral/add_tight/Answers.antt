use Rattle.std.proofs.Common.{arith, refl}
use Rattle.gs_grammar_compile.proofs.AddedNumerals.{next_digit, next_rest, some_power, tight_step}
use Rattle.gs_grammar_compile.proofs.numeral.add_tight.Goals as goal

pub nonzero_div-digit : goal.nonzero_div-digit
nonzero_div-digit c = some_power _ _ c.pow-power.ensures

pub overflow_cast-digit : goal.overflow_cast-digit
overflow_cast-digit c =
    let small = next_digit _ _ _ _ c.loop-left-test.true refl c.pow-power.ensures c.loop-left.invariant.small in
    omega arith

pub add_tight_state-requires-clause-digit : goal.add_tight_state-requires-clause-digit
add_tight_state-requires-clause-digit c = next_digit _ _ _ _ c.loop-left-test.true refl c.pow-power.ensures c.loop-left.invariant.small

pub nonzero_rem-number : goal.nonzero_rem-number
nonzero_rem-number c = some_power _ _ c.pow-power.ensures

pub loop-left-preserved : goal.loop-left-preserved
loop-left-preserved c =
    let few = c.loop-left.invariant.few in
    record {
      few = omega arith;
      small = next_rest _ _ _ c.pow-power.ensures;
      whole = tight_step _ _ _ _ _ _ _ _ c.loop-left-test.true refl c.pow-power.ensures c.loop-left.invariant.whole c.in_ok-add_tight_state.ensures;
    }
