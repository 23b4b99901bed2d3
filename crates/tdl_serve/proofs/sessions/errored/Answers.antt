use Rattle.std.proofs.Common.{ap, inl, inr}
use Rattle.tdl_serve.specs.Visits.{is_error, is_want}
use Rattle.tdl_serve.proofs.sessions.errored.Goals as goal

pub returns-in-ReadFault : goal.returns-in-ReadFault
returns-in-ReadFault c = elim c.in-ReadFault.is [
  | inl read ↦ (ap is_error read, ap is_want read)
  | inr write ↦ (ap is_error write, ap is_want write)
]
