use Rattle.std.proofs.Common.{sym}
use Rattle.gs_linkset.specs.LinkShapes.{is_tagged_text}
use Rattle.gs_linktext.specs.Links.{tagged_text}
use Rattle.gs_linktext.proofs.FilterLemmas.{taken_none, taken_some}
use Rattle.gs_linkset.proofs.ReadLemmas.{all_more}
use Rattle.gs_linktext.proofs.attrs.tagged_texts.Goals as goal

pub loop-value-preserved-in_default : goal.loop-value-preserved-in_default
loop-value-preserved-in_default c = (
  taken_none tagged_text c.args.values.now c.loop-value.value-index c.value-item.result c.loop-value.pairs.items c.loop-value-test.true c.value-item.is c.loop-value.invariant.0 (rw (c.in_default.is, c.as_bytes.ensures.value) at (sym c.in_ok-pair.ensures.value)),
  c.loop-value.invariant.1,
)

pub loop-value-preserved : goal.loop-value-preserved
loop-value-preserved c = (
  taken_some tagged_text c.args.values.now c.loop-value.value-index c.value-item.result c.loop-value.pairs.items c.push.new.self.items c.in-Some.pair c.loop-value-test.true c.value-item.is c.loop-value.invariant.0 (rw (c.in-Some.is, c.as_bytes.ensures.value) at (sym c.in_ok-pair.ensures.value)) c.in_ok-push.ensures.items,
  rw c.in_ok-push.ensures.items (all_more is_tagged_text c.loop-value.pairs.items c.in-Some.pair c.loop-value.invariant.1 (rw c.in-Some.is at c.in_ok-pair.ensures.shape)),
)
