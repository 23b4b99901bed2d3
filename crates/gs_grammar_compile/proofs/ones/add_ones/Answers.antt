use Rattle.std.proofs.Common.{arith, refl}
use Rattle.gs_grammar_compile.proofs.AddedOnes.{ones_step}
use Rattle.gs_grammar_compile.proofs.ones.add_ones.Goals as goal

pub loop-left-preserved : goal.loop-left-preserved
loop-left-preserved c =
    let few = c.loop-left.invariant.few in
    record {
      few = omega arith;
      whole = ones_step _ _ _ _ _ _ _ c.loop-left-test.true refl c.loop-left.invariant.whole
          (let n = c.in_ok-next.ensures in omega arith) c.in_ok-add_layer.ensures;
    }
