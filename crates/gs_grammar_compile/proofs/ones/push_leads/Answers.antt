use Rattle.std.proofs.Common.{arith, refl}
use Rattle.gs_grammar_compile.proofs.AddedOnes.{leads_step}
use Rattle.gs_grammar_compile.proofs.ones.push_leads.Goals as goal

pub loop-count-init : goal.loop-count-init
loop-count-init c = record { few = c.requires.few; edges = refl }

pub loop-count-preserved : goal.loop-count-preserved
loop-count-preserved c =
    let few = c.loop-count.invariant.few in
    record {
      few = omega arith;
      edges = leads_step _ _ _ _ _ _ c.loop-count-test.true c.loop-count.invariant.edges c.in_ok-push_lead.ensures;
    }
