use Rattle.std.proofs.Common.{refl}
use Rattle.gs_http.proofs.documents.TargetTemplate.fill.Goals as goal

pub returns-clause-value : goal.returns-clause-value
returns-clause-value c = rw (c.in_ok-target.ensures.text, c.as_bytes.ensures) refl
