use Rattle.std.proofs.Common.{refl}
use Rattle.gs_http.proofs.replies.sent_body.Goals as goal

pub returns-then-head_only : goal.returns-then-head_only
returns-then-head_only c = rw c.if-head_only.true refl
