use Rattle.gs_grammar.proofs.Cuts.{first_item, other_items}
use Rattle.gs_grammar_compile.proofs.AddedItems.{table_step, borders_step, whole_table, whole_borders, whole_machine, whole_rules}
use Rattle.gs_grammar_compile.proofs.compiler.machine_of_items.Goals as goal

pub loop-item-preserved : goal.loop-item-preserved
loop-item-preserved c = record {
  each = other_items _ _ _ c.in-Some.ensures.cases.0 c.loop-item.invariant.each;
  table = table_step _ _ _ _ _ _ c.in-Some.ensures.cases.0 c.loop-item.invariant.each c.loop-item.invariant.table c.in_ok-add_item.ensures;
  borders = borders_step _ _ _ _ _ _ _ _ _ c.in-Some.ensures.cases.0 c.loop-item.invariant.each c.loop-item.invariant.borders c.in_ok-add_item.ensures c.len.ensures c.in_ok-push-2.ensures.items;
}

pub add_item-requires : goal.add_item-requires
add_item-requires c = first_item _ _ _ c.in-Some.ensures.cases.0 c.loop-item.invariant.each

pub of_table-requires : goal.of_table-requires
of_table-requires c =
    let rows = whole_table _ _ c.args.items.now c.loop-item.left.now c.in_default.ensures.cases c.loop-item.invariant.table c.in_ok-push_state.ensures in
    let ends = whole_borders _ c.args.items.now c.loop-item.left.now _ c.in_default.ensures.cases c.loop-item.invariant.borders in
    whole_rules _ _ _ c.requires rows ends

pub returns : goal.returns
returns c =
    let rows = whole_table _ _ c.args.items.now c.loop-item.left.now c.in_default.ensures.cases c.loop-item.invariant.table c.in_ok-push_state.ensures in
    let ends = whole_borders _ c.args.items.now c.loop-item.left.now _ c.in_default.ensures.cases c.loop-item.invariant.borders in
    rw c.of_table.ensures (whole_machine _ _ _ rows ends)
