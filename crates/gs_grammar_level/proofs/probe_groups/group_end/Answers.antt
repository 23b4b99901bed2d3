use Rattle.gs_grammar_level.proofs.Literals.{begin_more, equal_literals}
use Rattle.gs_grammar_level.proofs.probe_groups.group_end.Goals as goal

pub loop-number-preserved : goal.loop-number-preserved
loop-number-preserved c =
    begin_more _ _ _ _ _ _ c.loop-number.invariant c.loop-number-test.true c.index-options-number.is
    (rw c.items.ensures.items at c.first_literal.ensures) (equal_literals _ _ _ c.ne.ensures c.if-ne.false)
