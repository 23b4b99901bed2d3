use Rattle.std.proofs.Common.{refl}
use Rattle.tdl_arguments.proofs.command.Command.names.Goals as goal

pub returns-in-Check : goal.returns-in-Check
returns-in-Check c = rw c.in-Check.is refl
