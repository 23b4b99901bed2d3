use Rattle.std.proofs.Common.{sym, ◌∙◌}
use Rattle.gs_ai.proofs.RuleLemmas.{row_out_of_form, row_clashes, row_has_other_length, row_in_order}
use Rattle.gs_ai.proofs.rules.check_row.Goals as goal

pub returns-then-not-is_row : goal.returns-then-not-is_row
returns-then-not-is_row c = row_out_of_form c.args.i c.args.earlier.now c.args.row.now (sym c.if-not-is_row.ensures)

pub returns-in-Some : goal.returns-in-Some
returns-in-Some c =
    let place = sym c.find_clash.ensures ∙ c.in-Some.is in
    row_clashes c.args.i c.in-Some.j c.args.earlier.now c.args.row.now (sym c.if-not-is_row.ensures) (rw c.as_bytes.ensures at place)

pub returns-then-not-keeps_predefined : goal.returns-then-not-keeps_predefined
returns-then-not-keeps_predefined c =
    let place = sym c.find_clash.ensures ∙ c.in_default.is in
    row_has_other_length c.args.i c.args.earlier.now c.args.row.now (sym c.if-not-is_row.ensures) (rw c.as_bytes.ensures at place)
    (sym c.if-not-keeps_predefined.ensures)

pub returns : goal.returns
returns c =
    let place = sym c.find_clash.ensures ∙ c.in_default.is in
    row_in_order c.args.i c.args.earlier.now c.args.row.now (sym c.if-not-is_row.ensures) (rw c.as_bytes.ensures at place)
    (sym c.if-not-keeps_predefined.ensures)
