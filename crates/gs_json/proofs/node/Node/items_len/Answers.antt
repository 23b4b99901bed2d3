use Rattle.std.proofs.Common.{◌≡◌, ◌∙◌, length, refl}
use Rattle.gs_json.proofs.LookUpLemmas.{counted}
use Rattle.gs_json.proofs.node.Node.items_len.Goals as goal

pub returns-in-Some : goal.returns-in-Some
returns-in-Some c =
    let items = c.in-Some.items.now in
    let size : c.len.result ≡ length items.items = c.len.ensures ∙ items.ok.0 in
    rw (← c.self.view_is, counted _ _ c.in-Some.ensures, size) refl
