use Rattle.std.proofs.Common.{false, unwrap_or, sym, ap, ◌∙◌}
use Rattle.serde_json.specs.View.{view}
use Rattle.gs_json.proofs.ArrayItems.{items_at}
use Rattle.gs_tables_document.specs.Items.{item_of}
use Rattle.gs_class.proofs.ReadLemmas.{all_read, one_read}
use Rattle.gs_class.proofs.document.read_items.Goals as goal

pub loop-i-preserved : goal.loop-i-preserved
loop-i-preserved c =
    one_read (item_of false) (view c.args.array.now.tree) c.loop-i.i
    (view c.in-Ok.item.tree) c.loop-i.items.items c.push.new.self.items c.in_ok-read_class_item.field-0
    (items_at (view c.args.array.now.tree) c.loop-i.i ∙ sym c.in-Ok.ensures.item) c.loop-i.invariant c.in_ok-push.ensures.items c.in_ok-read_class_item.ensures

pub returns : goal.returns
returns c =
    let size = c.unwrap_or-count.ensures ∙ ap (λ count. unwrap_or count 0) c.items_len.ensures in
    c.from_vec.ensures ∙ all_read (item_of false) (view c.args.array.now.tree) c.loop-i.i c.unwrap_or-count.result c.loop-i.items.items size c.loop-i-test.false c.loop-i.invariant
