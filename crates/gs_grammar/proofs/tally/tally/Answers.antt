use Rattle.std.proofs.Common.{arith, ◌<◌, length, length-set}
use Rattle.gs_grammar.proofs.Cuts.{first_item, other_items, tallies_step, tallies_end, tally_take}
use Rattle.std.proofs.lemmas.List.{take_all}
use Rattle.gs_grammar.proofs.tally.tally.Goals as goal

pub first_cut-requires-clause-item : goal.first_cut-requires-clause-item
first_cut-requires-clause-item c = first_item _ _ _ c.in-Some.ensures.cases.0 c.loop-item.invariant.items

pub first_cut-requires-clause-others : goal.first_cut-requires-clause-others
first_cut-requires-clause-others c = other_items _ _ _ c.in-Some.ensures.cases.0 c.loop-item.invariant.items

pub number_of_word-requires-clause-item : goal.number_of_word-requires-clause-item
number_of_word-requires-clause-item c = first_item _ _ _ c.in-Some.ensures.cases.0 c.loop-item.invariant.items

pub loop-item-preserved : goal.loop-item-preserved
loop-item-preserved c =
    let count = c.in-Some.ensures.cases.1 in
    let room = c.loop-item.invariant.room in
    let within : c.loop-item.number < length c.loop-item.out = omega arith in
    let whole = rw (c.split_at.ensures.front) at c.number_of_word.ensures in
    record {
      items = other_items _ _ _ c.in-Some.ensures.cases.0 c.loop-item.invariant.items;
      room = simp length-set (omega arith);
      numbers = rw (tally_take c.loop-item.out c.loop-item.number c.number_of_word.result within, c.split_at.ensures.back)
          (tallies_step _ _ _ _ _ _ _ _ _ c.loop-item.invariant.numbers c.in-Some.ensures.cases.0 c.first_cut.ensures whole);
    }

pub returns : goal.returns
returns c =
    let none = c.in_default.ensures.cases in
    let room = c.loop-item.invariant.room in
    let all = take_all c.loop-item.number c.loop-item.out (omega arith) in
    rw all at (tallies_end _ _ _ _ _ c.loop-item.invariant.numbers none)
