use Rattle.std.proofs.Common.{refl}
use Rattle.gs_http.proofs.documents.in_json.Goals as goal

pub returns : goal.returns
returns c = rw c.in_ok-write.ensures refl
