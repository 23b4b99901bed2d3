use Rattle.std.proofs.Common.{arith}
use Rattle.gs_grammar_level.proofs.Literals.{begin_one, groups_all, groups_more, groups_start}
use Rattle.gs_grammar_level.proofs.probe_groups.groups_of.Goals as goal

pub loop-from-preserved : goal.loop-from-preserved
loop-from-preserved c =
    groups_more _ _ _ _ _ _ _ c.loop-from.invariant c.group_end-end.ensures.within c.group_end-end.ensures.all c.in_ok-literal.ensures c.in_ok-push.ensures.items

pub returns : goal.returns
returns c = groups_all _ _ _ _ c.loop-from.invariant (grind arith) c.from_vec.ensures

pub loop-from-init : goal.loop-from-init
loop-from-init c = groups_start c.new-groups.result.items c.args.options.now c.new-groups.ensures.items

pub group_end-end-requires-clause-first : goal.group_end-end-requires-clause-first
group_end-end-requires-clause-first c = begin_one c.args.options.now c.loop-from.from c.index-options-from.result c.first_literal-literal.result.now c.loop-from-test.true c.index-options-from.is (rw c.items.ensures.items at c.first_literal-literal.ensures)
