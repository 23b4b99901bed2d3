use Rattle.std.proofs.Common.{arith}
use Rattle.gs_grammar.proofs.Cuts.{at_cut, fixed_cut, none_first, none_below, no_split, not_derived, some_cut}
use Rattle.gs_grammar.proofs.tally.first_cut.Goals as goal

pub returns-then-shortest-longest : goal.returns-then-shortest-longest
returns-then-shortest-longest c = fixed_cut _ _ _ _ c.requires.item c.requires.derived c.shortest-shortest.ensures (grind arith)

pub returns-then-is_derived : goal.returns-then-is_derived
returns-then-is_derived c =
    let word = rw c.split_at.ensures.front at c.is_word.ensures in
    let rest = rw c.split_at.ensures.back at c.is_derived.ensures in
    at_cut _ _ _ _ (grind arith) (word.0 c.if-not-is_word.false) (rest.0 c.if-is_derived.true)

pub loop-cut-init : goal.loop-cut-init
loop-cut-init c = none_first _ _ _ _ c.requires.item c.shortest-shortest.ensures

pub loop-cut-preserved-then-not-is_word : goal.loop-cut-preserved-then-not-is_word
loop-cut-preserved-then-not-is_word c =
    none_below _ _ _ _ c.loop-cut.invariant (no_split _ _ _ _ _ c.if-not-is_word.true (rw c.split_at.ensures.front at c.is_word.ensures))

pub loop-cut-preserved : goal.loop-cut-preserved
loop-cut-preserved c =
    none_below _ _ _ _ c.loop-cut.invariant (not_derived _ _ _ _ _ c.if-is_derived.false (rw c.split_at.ensures.back at c.is_derived.ensures))

pub unreachable-requires : goal.unreachable-requires
unreachable-requires c =
    some_cut _ _ _ _ _ c.requires.item c.requires.derived c.loop-cut.invariant (grind arith) c.loop-cut-test.false
