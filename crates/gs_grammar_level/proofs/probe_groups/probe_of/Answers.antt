use Rattle.std.proofs.Common.{arith}
use Rattle.gs_grammar.proofs.Cuts.{first_item, other_items}
use Rattle.gs_grammar_level.proofs.Literals.{leads_literal, leads_step, size_first}
use Rattle.gs_grammar_level.proofs.probe_groups.probe_of.Goals as goal

pub returns-in-Lit : goal.returns-in-Lit
returns-in-Lit c = leads_literal _ _ _ _ _ _ _ c.loop-item.invariant.leads c.in-Some.ensures.cases.0 c.in-Lit.is c.in_ok-literal.ensures

pub loop-item-preserved : goal.loop-item-preserved
loop-item-preserved c =
    let item = first_item _ _ _ c.in-Some.ensures.cases.0 c.loop-item.invariant.items in
    let sizes = size_first _ _ _ c.in-Some.ensures.cases.0 in
    let size = c.size-size.ensures.size in
    let small = c.loop-item.invariant.small in
    record {
      items = other_items _ _ _ c.in-Some.ensures.cases.0 c.loop-item.invariant.items;
      leads = leads_step _ _ _ _ _ _ _ c.loop-item.invariant.leads c.in-Some.ensures.cases.0 item size (grind arith) (grind arith);
      small = omega arith;
    }
