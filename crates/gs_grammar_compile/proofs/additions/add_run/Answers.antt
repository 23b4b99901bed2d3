use Rattle.gs_grammar_compile.proofs.AddedRows.{run_step}
use Rattle.gs_grammar_compile.proofs.additions.add_run.Goals as goal

pub loop-place-preserved : goal.loop-place-preserved
loop-place-preserved c = run_step _ _ _ _ _ _ _ c.loop-place-test.true c.loop-place.invariant c.in_ok-add_step.ensures
