use Rattle.std.proofs.Common.{sym, ◌∙◌}
use Rattle.gs_class.proofs.WrittenItems.{apart_is}
use Rattle.gs_class.proofs.writer.class_fields.Goals as goal

pub returns-clause-apart : goal.returns-clause-apart
returns-clause-apart c =
    apart_is c.args.ais.now c.args.class.now c.args.identity.now c.in-Some.lot.now _ _ _
    (sym (rw (c.qualifiers.ensures, c.as_bytes.ensures) at c.in-Some.ensures))
    (c.in_ok-from_bytes.ensures ∙ (rw (c.parts_at-parts.ensures, c.as_bytes-2.ensures, c.as_bytes-value.ensures, c.key.ensures) at c.prefix_in.ensures))
    (c.in_ok-joined.ensures ∙ (rw (c.parts_at-parts.ensures, c.as_bytes-2.ensures, c.as_bytes-value.ensures, c.key.ensures) at c.rest_in.ensures))
    (c.in_ok-from_bytes-2.ensures ∙ c.as_bytes-3.ensures)
