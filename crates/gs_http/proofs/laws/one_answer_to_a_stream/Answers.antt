use Rattle.std.proofs.Common.{ap, refl, sym, ◌∙◌}
use Rattle.gs_http.specs.Streams.{heads_of, replies_of}
use Rattle.gs_http.proofs.StreamLaws.{one_replies, some_replies}
use Rattle.gs_http.proofs.laws.one_answer_to_a_stream.Goals as goal

pub returns-clause-some : goal.returns-clause-some
returns-clause-some c table links settings most stream =
    let all = some_replies table links settings most (heads_of most stream) in
    (replies_of all.0, record { replies = all.0; are_replies = all.1; is_output = refl })

pub returns-clause-one : goal.returns-clause-one
returns-clause-one c table links settings most stream a b x y =
    x.is_output ∙ ap replies_of (one_replies table links settings most (heads_of most stream) x.replies y.replies x.are_replies y.are_replies) ∙ sym y.is_output
