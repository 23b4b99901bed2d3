use Rattle.std.proofs.Common.{take}
use Rattle.std.specs.Prelude.{Some}
use Rattle.gs_http.proofs.Readings.{sent_nothing}
use Rattle.gs_http.proofs.StreamLaws.{some_reply}
use Rattle.gs_http.proofs.connection.answer_head.Goals as goal

pub returns-in_default-clause-answered : goal.returns-in_default-clause-answered
returns-in_default-clause-answered g c =
    let some = some_reply c.args.resolver.now.table c.args.resolver.now.links c.args.resolver.now.settings (Some (take c.args.len c.args.bytes.now)) c.args.last in
    record { reply = some.0; is_reply = some.1; delivers = (0, sent_nothing _) }

pub returns-in-Some-clause-answered : goal.returns-in-Some-clause-answered
returns-in-Some-clause-answered g c = record {
  reply = c.in-Ok.reply;
  is_reply = rw c.as_slice.ensures at c.in-Ok.ensures;
  delivers = c.in-Some.ensures;
}

pub returns-clause-answered : goal.returns-clause-answered
returns-clause-answered g c = record {
  reply = c.in-Ok.reply;
  is_reply = rw c.as_slice.ensures at c.in-Ok.ensures;
  delivers = c.in-None.ensures;
}
