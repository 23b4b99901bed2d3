use Rattle.std.proofs.Common.{arith}
use Rattle.gs_grammar_compile.proofs.AddedOnes.{counts_step, counts_end}
use Rattle.gs_grammar_compile.proofs.ones.add_counts.Goals as goal

pub loop-count-preserved : goal.loop-count-preserved
loop-count-preserved c =
    let low = c.loop-count-test.true in
    record {
      some = omega arith;
      few = omega arith;
      rows = counts_step _ _ _ _ _ _ _ c.loop-count-test.true c.loop-count.invariant.rows c.in_ok-add_count.ensures;
    }

pub returns : goal.returns
returns c = counts_end _ _ _ _ _ _ (let high = c.loop-count-test.false in omega arith) c.loop-count.invariant.rows
