use Rattle.std.proofs.Common.{arith}
use Rattle.gs_grammar.proofs.Cuts.{first_item, other_items}
use Rattle.gs_grammar_level.proofs.BetweenCuts.{next_cut, gathers_step, gathers_end}
use Rattle.gs_grammar_level.proofs.read.values_of.Goals as goal

pub overflow_add-number : goal.overflow_add-number
overflow_add-number c =
    let n = next_cut _ _ _ _ _ _ _ c.in-Some.ensures.cases.0 c.loop-item.invariant.ahead in
    let inside = n.inside in
    grind arith

pub offset_bounds-cuts-number : goal.offset_bounds-cuts-number
offset_bounds-cuts-number c =
    let n = next_cut _ _ _ _ _ _ _ c.in-Some.ensures.cases.0 c.loop-item.invariant.ahead in
    let inside = n.inside in
    grind arith

pub bounds-cuts-number : goal.bounds-cuts-number
bounds-cuts-number c = (next_cut _ _ _ _ _ _ _ c.in-Some.ensures.cases.0 c.loop-item.invariant.ahead).inside

pub overflow_sub-next : goal.overflow_sub-next
overflow_sub-next c = (next_cut _ _ _ _ _ _ _ c.in-Some.ensures.cases.0 c.loop-item.invariant.ahead).low

pub split_at-requires : goal.split_at-requires
split_at-requires c = (next_cut _ _ _ _ _ _ _ c.in-Some.ensures.cases.0 c.loop-item.invariant.ahead).within

pub value_of-requires-clause-item : goal.value_of-requires-clause-item
value_of-requires-clause-item c = first_item _ _ _ c.in-Some.ensures.cases.0 c.loop-item.invariant.items

pub value_of-requires-clause-word : goal.value_of-requires-clause-word
value_of-requires-clause-word c =
    let n = next_cut _ _ _ _ _ _ _ c.in-Some.ensures.cases.0 c.loop-item.invariant.ahead in
    rw c.split_at.ensures.front n.word

pub loop-item-preserved : goal.loop-item-preserved
loop-item-preserved c =
    let n = next_cut _ _ _ _ _ _ _ c.in-Some.ensures.cases.0 c.loop-item.invariant.ahead in
    record {
      items = other_items _ _ _ c.in-Some.ensures.cases.0 c.loop-item.invariant.items;
      values = rw (c.in_ok-push.ensures.items, c.split_at.ensures.back)
          (gathers_step _ _ _ _ _ _ _ _ _ c.loop-item.invariant.values c.in-Some.ensures.cases.0 n.split (rw c.split_at.ensures.front at c.in_ok-value_of.ensures));
      ahead = rw c.split_at.ensures.back n.ahead;
    }

pub returns : goal.returns
returns c = rw c.from_vec.ensures (gathers_end _ _ _ _ _ c.loop-item.invariant.values c.in_default.ensures.cases)
