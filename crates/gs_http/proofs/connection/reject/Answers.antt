use Rattle.std.proofs.Common.{refl}
use Rattle.std.specs.Prelude.{None}
use Rattle.gs_http.specs.Replies.{reply_of}
use Rattle.gs_http.proofs.Readings.{sent_nothing}
use Rattle.gs_http.proofs.connection.reject.Goals as goal

pub returns-in-Ok : goal.returns-in-Ok
returns-in-Ok g c = λ table links settings last. record {
  reply = c.in-Ok.reply;
  is_reply = c.in-Ok.ensures table links settings last;
  delivers = c.deliver.ensures;
}

pub returns-in-Err : goal.returns-in-Err
returns-in-Err g c = λ table links settings last. record {
  reply = reply_of table links settings None last;
  is_reply = refl;
  delivers = (0, sent_nothing _);
}
