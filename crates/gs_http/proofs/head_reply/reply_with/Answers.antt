use Rattle.std.proofs.Common.{◌≡◌, ℕ, List, true, sym, subst, ◌∙◌}
use Rattle.gs_http.specs.Heads.{Asked, asked_of, is_rejected}
use Rattle.gs_http.specs.LentValues.{asked_by}
use Rattle.gs_http.proofs.Rejections.{no_head, rejection_is, rejected_head}
use Rattle.gs_http.proofs.head_reply.reply_with.Goals as goal

pub returns-in_default : goal.returns-in_default
returns-in_default c =
    rejection_is c.args.resolver.now.table c.args.resolver.now.links c.args.resolver.now.settings c.args.head.now c.args.last c.rejection.result (no_head c.args.head.now c.in_default.ensures.whole)
    (c.rejection.ensures c.args.resolver.now.table c.args.resolver.now.links c.args.resolver.now.settings c.args.last)

pub returns-then-is_rejected : goal.returns-then-is_rejected
returns-then-is_rejected c =
    let h = c.in-Some.ensures.whole in
    let says = c.request_at-request.ensures.says h.0 h.2 in
    let rejected = sym c.is_rejected.ensures ∙ c.if-is_rejected.true in
    let here : is_rejected c.args.head.now (asked_of h.0).fields ≡ true =
    subst (λ (a : Asked). is_rejected c.args.head.now a.fields ≡ true) says
    (subst (λ (head : List ℕ). is_rejected head (asked_by c.request_at-request.result).fields ≡ true) c.request_at-request.ensures.head rejected) in
    rejection_is c.args.resolver.now.table c.args.resolver.now.links c.args.resolver.now.settings c.args.head.now c.args.last c.rejection-then-is_rejected.result (rejected_head c.args.head.now h.0 h.1 here)
    (c.rejection-then-is_rejected.ensures c.args.resolver.now.table c.args.resolver.now.links c.args.resolver.now.settings c.args.last)
