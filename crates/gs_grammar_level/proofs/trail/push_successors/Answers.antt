use Rattle.std.proofs.Common.{sym, ◌∙◌}
use Rattle.gs_grammar_level.proofs.Entries.{all_over, one_leads, one_passed}
use Rattle.gs_grammar_level.proofs.trail.push_successors.Goals as goal

pub loop-edge-preserved : goal.loop-edge-preserved
loop-edge-preserved c = one_leads c.args.edges.now c.args.symbol c.args.back c.loop-edge.edge-index _ _ c.loop-edge.trail.items c.push.new.self.items c.loop-edge-test.true c.loop-edge.invariant (sym c.leads_with.ensures ∙ c.if-not-leads_with.false) c.in_ok-push.ensures.items

pub loop-edge-preserved-then-not-leads_with : goal.loop-edge-preserved-then-not-leads_with
loop-edge-preserved-then-not-leads_with c = one_passed c.args.edges.now c.args.symbol c.args.back c.loop-edge.edge-index _ _ c.loop-edge.trail.items c.loop-edge-test.true c.loop-edge.invariant (sym c.leads_with.ensures ∙ c.if-not-leads_with.true)

pub returns : goal.returns
returns c = all_over c.args.edges.now c.args.symbol c.args.back c.loop-edge.edge-index c.args.trail.now.items c.loop-edge.trail.items c.loop-edge.invariant c.loop-edge-test.false
