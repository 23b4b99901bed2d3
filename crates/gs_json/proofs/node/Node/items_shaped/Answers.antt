use Rattle.std.proofs.Common.{ap, unwrap_or, ◌∙◌, arith}
use Rattle.std.proofs.lemmas.Result.{err_from_is_err_and}
use Rattle.serde_json.specs.View.{view}
use Rattle.gs_json.proofs.JudgementLemmas.{item_first, item_more, items_end}
use Rattle.gs_json.proofs.node.Node.items_shaped.Goals as goal

pub returns-in_err-shaped : goal.returns-in_err-shaped
returns-in_err-shaped c =
    let p = err_from_is_err_and c.from_residual-in_err-shaped.result c.from_residual-in_err-shaped.ensures.1 in
    rw (p.1, p.2) (item_first c.args.self.now.place c.args.name.now c.args.plan.now (view c.args.self.now.tree) c.in-Some.array
    (rw c.in-Some.is at c.in_ok-array.ensures.part) (rw c.in-Some.is at c.in_ok-array.ensures.place) c.loop-i.i c.loop-i.invariant
    c.in_ok-item.item c.in_ok-item.ensures.item c.in_ok-item.ensures.place c.in_err-shaped.field-0.0 c.in_err-shaped.ensures)

pub loop-i-preserved : goal.loop-i-preserved
loop-i-preserved c =
    item_more c.args.self.now.place c.args.name.now c.args.plan.now (view c.args.self.now.tree) c.in-Some.array
    (rw c.in-Some.is at c.in_ok-array.ensures.part) (rw c.in-Some.is at c.in_ok-array.ensures.place) c.loop-i.i c.loop-i.invariant
    c.in_ok-item.item c.in_ok-item.ensures.item c.in_ok-item.ensures.place c.in_ok-shaped.field-0 c.in_ok-shaped.ensures

pub returns : goal.returns
returns c =
    let size = c.unwrap_or-count.ensures ∙ ap (λ count. unwrap_or count 0) c.items_len.ensures in
    items_end c.args.self.now.place c.args.name.now c.args.plan.now (view c.args.self.now.tree) c.in-Some.array
    (rw c.in-Some.is at c.in_ok-array.ensures.part) (rw c.in-Some.is at c.in_ok-array.ensures.place) c.loop-i.i c.loop-i.invariant
    c.unwrap_or-count.result size (omega arith)
