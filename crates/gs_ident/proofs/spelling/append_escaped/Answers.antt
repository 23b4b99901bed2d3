use Rattle.std.proofs.Common.{sym, ◌∙◌}
use Rattle.gs_ident.proofs.ValueEscapes.{plain_text}
use Rattle.gs_ident.proofs.spelling.append_escaped.Goals as goal

pub returns-then-is_plain-clause-written : goal.returns-then-is_plain-clause-written
returns-then-is_plain-clause-written c = rw (plain_text c.args.value.now (sym c.is_plain.ensures ∙ c.if-is_plain.true)) c.in_ok-extend_from_slice.ensures.items
