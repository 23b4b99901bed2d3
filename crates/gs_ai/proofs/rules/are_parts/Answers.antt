use Rattle.std.proofs.Common.{refl}
use Rattle.std.specs.List.{list_all}
use Rattle.gs_ai.proofs.RowLemmas.{is_closed, judged, too_many}
use Rattle.gs_ai.proofs.rules.are_parts.Goals as goal

pub returns-then-parts-gt3 : goal.returns-then-parts-gt3
returns-then-parts-gt3 c = too_many c.args.parts.now c.if-parts-gt3.true

pub returns-then-is_listed : goal.returns-then-is_listed
returns-then-is_listed c =
    let others = c.in-Some.others.now in
    let whole = judged c.args.parts.now others c.in-Some.last.now c.is_listed.result _ c.in-Some.ensures.cases.0 c.if-parts-gt3.false c.is_listed.ensures c.are_closed.ensures in
    rw c.if-is_listed.true at whole

pub returns-else-is_listed : goal.returns-else-is_listed
returns-else-is_listed c =
    let others = c.in-Some.others.now in
    let whole = judged c.args.parts.now others c.in-Some.last.now c.is_listed.result (list_all is_closed others) c.in-Some.ensures.cases.0 c.if-parts-gt3.false c.is_listed.ensures refl in
    rw c.if-is_listed.false (rw c.if-is_listed.false at whole)
