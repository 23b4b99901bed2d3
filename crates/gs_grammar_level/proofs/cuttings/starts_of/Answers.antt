use Rattle.std.proofs.Common.{arith}
use Rattle.gs_grammar.proofs.Cuts.{other_items}
use Rattle.gs_grammar_level.proofs.Literals.{size_first}
use Rattle.gs_grammar_level.proofs.CuttingLemmas.{starts_step, starts_end}
use Rattle.gs_grammar_level.proofs.cuttings.starts_of.Goals as goal

pub overflow_add-place : goal.overflow_add-place
overflow_add-place c =
    let sizes = size_first _ _ _ c.in-Some.ensures.cases.0 in
    let size = c.size-place.ensures.size in
    let small = c.loop-item.invariant.small in
    omega arith

pub loop-item-preserved : goal.loop-item-preserved
loop-item-preserved c =
    let sizes = size_first _ _ _ c.in-Some.ensures.cases.0 in
    let size = c.size-place.ensures.size in
    let small = c.loop-item.invariant.small in
    record {
      items = other_items _ _ _ c.in-Some.ensures.cases.0 c.loop-item.invariant.items;
      small = omega arith;
      starts = starts_step _ _ _ _ _ _ _ _ c.in-Some.ensures.cases.0 c.loop-item.invariant.starts c.in_ok-push.ensures.items (omega arith);
    }

pub returns : goal.returns
returns c = starts_end _ _ _ _ _ c.in_default.ensures.cases c.loop-item.invariant.starts c.from_vec.ensures
