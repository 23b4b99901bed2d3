use Rattle.std.proofs.Common.{map, ap, ◌∙◌, arith}
use Rattle.serde_json.specs.View.{view}
use Rattle.gs_prefix.specs.Documents.{entry_of}
use Rattle.gs_prefix.proofs.Parts.{mapped_all, mapped_step, mapped_views}
use Rattle.gs_prefix.proofs.document.read_entries.Goals as goal

pub loop-item-preserved : goal.loop-item-preserved
loop-item-preserved c =
    mapped_step (λ item. entry_of (view item)) c.items_in-item-items.result.now c.loop-item.item-index c.item-item.result c.loop-item.entries.items _ _ c.loop-item-test.true c.item-item.is c.loop-item.invariant
    c.in_ok-push.ensures.items c.in_ok-read_entry.ensures

pub returns : goal.returns
returns c =
    mapped_all (λ item. entry_of (view item)) c.items_in-item-items.result.now c.loop-item.item-index c.loop-item.entries.items
    (omega (arith, c.loop-item-test.false)) c.loop-item.invariant
    ∙ mapped_views entry_of c.items_in-item-items.result.now ∙ ap (map entry_of) c.items_in-item-items.ensures
