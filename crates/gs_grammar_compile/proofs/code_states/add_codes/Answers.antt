use Rattle.std.proofs.Common.{arith, refl}
use Rattle.gs_grammar_compile.proofs.AddedCodes.{codes_step}
use Rattle.gs_grammar_compile.proofs.code_states.add_codes.Goals as goal

pub loop-more-preserved : goal.loop-more-preserved
loop-more-preserved c =
    let few = c.loop-more.invariant.few in
    let room = c.loop-more.invariant.room in
    record {
      few = omega arith;
      room = omega arith;
      whole = codes_step _ _ _ _ _ _ _ _ _ c.loop-more-test.true refl c.saturating_sub-least.ensures c.loop-more.invariant.whole c.in_ok-add_code.ensures;
    }
