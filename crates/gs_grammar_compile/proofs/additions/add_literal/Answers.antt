use Rattle.gs_grammar_compile.proofs.AddedRows.{literal_end, literal_step}
use Rattle.gs_grammar_compile.proofs.additions.add_literal.Goals as goal

pub loop-symbol-preserved : goal.loop-symbol-preserved
loop-symbol-preserved c = literal_step _ _ _ _ _ c.loop-symbol-test.true c.loop-symbol.invariant c.in_ok-add_step.ensures

pub returns : goal.returns
returns c = literal_end _ _ _ _ c.loop-symbol-test.false c.loop-symbol.invariant
