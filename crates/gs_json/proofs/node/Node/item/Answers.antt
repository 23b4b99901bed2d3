use Rattle.std.proofs.Common.{◌≡◌, ◌∙◌, ◌<◌, Some, length, ap, arith, rules}
use Rattle.std.specs.Vec.{vec_len}
use Rattle.serde_json.specs.View.{view}
use Rattle.gs_json.proofs.LookUpLemmas.{count_is, item_found}
use Rattle.gs_json.proofs.node.Node.item.Goals as goal

pub index-requires : goal.index-requires
index-requires c =
    let size = count_is _ _ (rw c.unwrap-items.ensures at c.as_array.ensures) in
    let within = rw (← c.self.view_is) at c.requires in
    let items = c.unwrap-items.result.now in
    let len : vec_len items ≡ length items.items = search rules in
    omega arith

pub returns-clause-item : goal.returns-clause-item
returns-clause-item c =
    let size = count_is _ _ (rw c.unwrap-items.ensures at c.as_array.ensures) in
    let within = rw (← c.self.view_is) at c.requires in
    let below : c.args.i < length c.unwrap-items.result.now.items = omega arith in
    rw (← c.self.view_is) (ap (λ v. Some (view v)) c.index.ensures ∙ item_found _ _ c.args.i c.index.result.now (rw c.unwrap-items.ensures at c.as_array.ensures) below)
