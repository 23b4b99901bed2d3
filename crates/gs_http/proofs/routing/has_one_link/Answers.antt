use Rattle.std.proofs.Common.{refl}
use Rattle.gs_http.proofs.routing.has_one_link.Goals as goal

pub returns : goal.returns
returns c = refl
