use Rattle.gs_tables_document.proofs.Parts.{each_all, each_more}
use Rattle.gs_tables_document.proofs.rows.read_items.Goals as goal

pub loop-item-preserved : goal.loop-item-preserved
loop-item-preserved g c =
    each_more (g.R.Row.reads c.args.reading) c.args.items.now c.loop-item.item-index c.item-item.result c.loop-item.rows.items c.push.new.self.items _
    c.loop-item-test.true c.item-item.is c.loop-item.invariant c.in_ok-push.ensures.items c.in_ok-read.ensures

pub returns : goal.returns
returns g c =
    rw c.from_vec.ensures (each_all (g.R.Row.reads c.args.reading) c.args.items.now c.loop-item.item-index c.loop-item.rows.items c.loop-item-test.false c.loop-item.invariant)
