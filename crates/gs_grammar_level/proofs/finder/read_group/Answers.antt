use Rattle.std.proofs.Common.{arith}
use Rattle.gs_grammar_level.proofs.Readers.{none_by_group, none_so_far, none_more, none_within}
use Rattle.gs_grammar_level.proofs.finder.read_group.Goals as goal

pub returns-then-not-stands_at-clause-none : goal.returns-then-not-stands_at-clause-none
returns-then-not-stands_at-clause-none c =
    none_by_group _ _ _ _ _ _ c.requires.begin (rw c.as_bytes.ensures at c.stands_at.ensures) c.if-not-stands_at.true

pub loop-option-init : goal.loop-option-init
loop-option-init c = none_so_far _ _ _

pub loop-option-preserved-then-not-is_probed : goal.loop-option-preserved-then-not-is_probed
loop-option-preserved-then-not-is_probed c = none_more _ _ _ _ _ c.loop-option.invariant (c.is_probed.ensures c.if-not-is_probed.true)

pub loop-option-preserved : goal.loop-option-preserved
loop-option-preserved c = none_more _ _ _ _ _ c.loop-option.invariant (rw c.in_default.is at c.in_ok-found.ensures.none)

pub returns-clause-none : goal.returns-clause-none
returns-clause-none c = none_within _ _ _ _ _ c.loop-option.invariant (grind arith)
