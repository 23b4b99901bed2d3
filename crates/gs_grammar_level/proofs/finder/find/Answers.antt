use Rattle.gs_grammar_level.proofs.Readers.{groups_left, group_here, group_within, group_begins, next_group, no_group}
use Rattle.gs_grammar_level.proofs.finder.find.Goals as goal

pub loop-group-init : goal.loop-group-init
loop-group-init c = groups_left _ _ _ c.groups-group-items.ensures

pub read_group-requires-clause-within : goal.read_group-requires-clause-within
read_group-requires-clause-within c = group_within _ _ _ _ _ _ (group_here _ _ _ c.loop-group-test.true c.group-item.is) c.loop-group.invariant

pub read_group-requires-clause-begin : goal.read_group-requires-clause-begin
read_group-requires-clause-begin c = group_begins _ _ _ _ _ _ (group_here _ _ _ c.loop-group-test.true c.group-item.is) c.loop-group.invariant

pub loop-group-preserved : goal.loop-group-preserved
loop-group-preserved c = next_group _ _ _ _ _ _ (group_here _ _ _ c.loop-group-test.true c.group-item.is) c.loop-group.invariant
    (rw c.in_default.is at c.in_ok-found.ensures.none)

pub returns-clause-none : goal.returns-clause-none
returns-clause-none c = no_group _ _ _ _ _ c.loop-group-test.false c.loop-group.invariant
