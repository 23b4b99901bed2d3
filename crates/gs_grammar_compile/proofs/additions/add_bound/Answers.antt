use Rattle.std.proofs.Common.{arith, refl}
use Rattle.gs_grammar_compile.proofs.AddedRows.{bound_step}
use Rattle.gs_grammar_compile.proofs.additions.add_bound.Goals as goal

pub loop-left-preserved : goal.loop-left-preserved
loop-left-preserved c =
    let few = c.loop-left.invariant.few in
    record {
      few = omega arith;
      whole = bound_step _ _ _ _ _ _ _ _ c.loop-left-test.true refl c.loop-left.invariant.whole c.in_ok-add_first.ensures c.in_ok-add_second.ensures c.rest_of-bound.ensures;
    }
