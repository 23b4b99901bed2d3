use Rattle.std.proofs.Common.{sym, ◌∙◌}
use Rattle.gs_prefix.proofs.FindLemmas.{found_any}
use Rattle.gs_prefix.proofs.RejectionLemmas.{bad_length, bad_prefix, in_order, twice}
use Rattle.gs_prefix.proofs.entry.check_entry.Goals as goal

pub returns-then-not-is_prefix : goal.returns-then-not-is_prefix
returns-then-not-is_prefix c =
    bad_prefix c.args.earlier.now c.args.i c.args.entry.now (rw c.as_bytes-prefix.ensures at (sym c.is_prefix.ensures ∙ c.if-not-is_prefix.true))

pub returns-then-entry-gt-GREATEST_LENGTH : goal.returns-then-entry-gt-GREATEST_LENGTH
returns-then-entry-gt-GREATEST_LENGTH c =
    bad_length c.args.earlier.now c.args.i c.args.entry.now (rw c.as_bytes-prefix.ensures at (sym c.is_prefix.ensures ∙ c.if-not-is_prefix.false)) c.if-entry-gt-GREATEST_LENGTH.true

pub returns-then-is_some : goal.returns-then-is_some
returns-then-is_some c =
    twice c.args.earlier.now c.args.i c.args.entry.now (rw c.as_bytes-prefix.ensures at (sym c.is_prefix.ensures ∙ c.if-not-is_prefix.false)) c.if-entry-gt-GREATEST_LENGTH.false
    (rw c.as_bytes-prefix.ensures at (sym (found_any c.as_bytes-prefix.result.now c.args.earlier.now) ∙ rw c.length_of.ensures at (sym c.is_some.ensures ∙ c.if-is_some.true)))

pub returns-else-is_some : goal.returns-else-is_some
returns-else-is_some c =
    in_order c.args.earlier.now c.args.i c.args.entry.now (rw c.as_bytes-prefix.ensures at (sym c.is_prefix.ensures ∙ c.if-not-is_prefix.false)) c.if-entry-gt-GREATEST_LENGTH.false
    (rw c.as_bytes-prefix.ensures at (sym (found_any c.as_bytes-prefix.result.now c.args.earlier.now) ∙ rw c.length_of.ensures at (sym c.is_some.ensures ∙ c.if-is_some.false)))
