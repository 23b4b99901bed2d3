use Rattle.std.proofs.Common.{refl}
use Rattle.gs_grammar_compile.proofs.AddedRows.{ranges_step, ranges_end}
use Rattle.gs_grammar_compile.proofs.spelling_states.push_ranges.Goals as goal

pub loop-range-preserved : goal.loop-range-preserved
loop-range-preserved c =
    ranges_step _ _ _ _ _ _ _ _ c.loop-range-test.true refl c.loop-range.invariant c.in_ok-push.ensures.items

pub returns : goal.returns
returns c = ranges_end _ _ _ _ _ c.loop-range-test.false c.loop-range.invariant
