use Rattle.std.proofs.Common.{refl, []}
use Rattle.tdl_lines.specs.declared.status.Status.TheVariants.{Memory}
use Rattle.tdl_session.proofs.session.Session.translate_lines.Goals as goal

pub returns-in_default : goal.returns-in_default
returns-in_default c = record { status = Memory; output = []; answered = tt; is_put = (c.nothing.ensures.status, (refl, c.nothing.ensures.len)) }
