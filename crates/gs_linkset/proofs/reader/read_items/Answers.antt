use Rattle.std.proofs.Common.{◌≤◌, length, arith, sym, ◌∙◌}
use Rattle.std.proofs.lemmas.Result.{err_from_is_err_and}
use Rattle.serde_json.specs.View.{view}
use Rattle.gs_json.specs.Members.{items_of}
use Rattle.gs_json.proofs.ArrayItems.{items_length}
use Rattle.gs_linkset.proofs.ReadLemmas.{all_more, array_error, array_read, items_read}
use Rattle.gs_linkset.proofs.reader.read_items.Goals as goal

pub returns-in_err-item-clause-answer : goal.returns-in_err-item-clause-answer
returns-in_err-item-clause-answer g c =
    let p = err_from_is_err_and c.from_residual-in_err-item.result c.from_residual-in_err-item.ensures.1 in
    rw (p.1, p.2) (array_error g.T.ReadItem.errors g.T.ReadItem.made c.args.array.now.place (view c.args.array.now.tree) c.loop-i.items.items c.loop-i.i c.in_err-item.field-0.0 c.loop-i.invariant.0 c.in_err-item.ensures.answer)

pub loop-i-preserved : goal.loop-i-preserved
loop-i-preserved g c = (
  array_read g.T.ReadItem.errors g.T.ReadItem.made c.args.array.now.place
      (view c.args.array.now.tree) c.loop-i.items.items c.loop-i.i c.in_ok-item.item c.push.new.items.items c.loop-i.invariant.0 c.in_ok-item.ensures.answer c.in_ok-push.ensures,
  rw c.in_ok-push.ensures (all_more g.T.Shaped.shape c.loop-i.items.items c.in_ok-item.item c.loop-i.invariant.1 c.in_ok-item.ensures.shape),
)

pub returns-clause-answer : goal.returns-clause-answer
returns-clause-answer g c =
    let size = items_length (view c.args.array.now.tree) ∙ sym c.requires in
    let few : length (items_of (view c.args.array.now.tree)) ≤ c.loop-i.i = rw size (omega (arith, c.loop-i-test.false)) in
    rw c.from_vec.ensures (items_read g.T.ReadItem.errors g.T.ReadItem.made c.args.array.now.place (items_of (view c.args.array.now.tree)) c.loop-i.items.items c.loop-i.i c.loop-i.invariant.0 few)
