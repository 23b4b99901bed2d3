use Rattle.std.proofs.Common.{◌∙◌, refl, ap}
use Rattle.std.proofs.lemmas.List.{take_all}
use Rattle.gs_chars.proofs.TruthsAndLists.{read_at}
use Rattle.gs_merge.specs.Distinct.{distinct}
use Rattle.gs_merge.specs.MergedDocuments.{targets_of}
use Rattle.gs_merge.proofs.GroupLemmas.{no_texts, targets_more, targets_shape}
use Rattle.gs_merge.proofs.ShapeLemmas.{link_target}
use Rattle.gs_merge.proofs.merger.distinct_targets.Goals as goal

pub loop-link-init : goal.loop-link-init
unfolding distinct
loop-link-init c = rw (c.new-targets.ensures.items, c.new-texts.ensures.empty) (refl, refl, no_texts)

pub add_target-requires-clause-shape : goal.add_target-requires-clause-shape
add_target-requires-clause-shape c = link_target c.link.result.now (rw c.link.ensures.same c.link.ensures.shape)

pub loop-link-preserved : goal.loop-link-preserved
loop-link-preserved c =
    let at = read_at c.args.links.now c.loop-link.link-index c.link-item.result c.loop-link-test.true c.link-item.is in
    let own = ap (λ l. l.target) c.link.ensures.same in
    let added = rw own at c.in_ok-add_target.ensures.targets in
    let shape = link_target c.link-item.result c.link.ensures.shape in (
      targets_more c.args.links.now c.loop-link.link-index c.link-item.result c.loop-link.targets.items c.add_target.new.targets.items at c.loop-link.invariant.0 added,
      targets_shape c.loop-link.targets.items c.add_target.new.targets.items c.link-item.result.target c.loop-link.invariant.1 shape added,
      c.in_ok-add_target.ensures.texts,
    )

pub returns : goal.returns
returns c = c.from_vec.ensures ∙ c.loop-link.invariant.0 ∙ ap (λ ls. distinct (targets_of ls)) (take_all c.loop-link.link-index c.args.links.now c.loop-link-test.false)
