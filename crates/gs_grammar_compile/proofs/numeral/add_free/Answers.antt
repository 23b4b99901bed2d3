use Rattle.std.proofs.Common.{refl}
use Rattle.gs_grammar_compile.proofs.AddedNumerals.{free_step}
use Rattle.gs_grammar_compile.proofs.numeral.add_free.Goals as goal

pub loop-left-preserved : goal.loop-left-preserved
loop-left-preserved c = free_step _ _ _ _ _ c.loop-left-test.true refl c.loop-left.invariant c.in_ok-add_free_state.ensures
