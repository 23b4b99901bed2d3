use Rattle.std.proofs.Common.{◌∙◌, sym}
use Rattle.gs_epc.proofs.LaidLinks.{means_none}
use Rattle.gs_epc.proofs.layout.stands_for_none.Goals as goal

pub returns-then-not-is_empty : goal.returns-then-not-is_empty
returns-then-not-is_empty c =
    λ ais code is. c.eq.ensures ∙ (rw (sym c.is_empty.ensures ∙ c.if-not-is_empty.true) at (means_none ais code c.args.value.now c.args.none.now is))

pub returns-else-not-is_empty : goal.returns-else-not-is_empty
returns-else-not-is_empty c =
    λ ais code is. rw c.if-not-is_empty.false (rw (sym c.is_empty.ensures ∙ c.if-not-is_empty.false) at (means_none ais code c.args.value.now c.args.none.now is))
