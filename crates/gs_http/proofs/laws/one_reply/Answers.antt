use Rattle.std.proofs.Common.{ap, refl, sym, ◌∙◌}
use Rattle.std.specs.Prelude.{Option}
use Rattle.gs_http.specs.Heads.{Asked}
use Rattle.gs_http.specs.Replies.{reply_of}
use Rattle.gs_http.proofs.HeadLaws.{one_asked, some_asked}
use Rattle.gs_http.proofs.laws.one_reply.Goals as goal

pub returns-clause-some : goal.returns-clause-some
returns-clause-some c table links settings head last =
    let said = some_asked head in
    (reply_of table links settings said.0 last, record { asked = said.0; is_asked = said.1; is_reply = refl })

pub returns-clause-one : goal.returns-clause-one
returns-clause-one c table links settings head last a b x y =
    x.is_reply ∙ ap (λ (asked : Option Asked). reply_of table links settings asked last) (one_asked head x.asked y.asked x.is_asked y.is_asked) ∙ sym y.is_reply
