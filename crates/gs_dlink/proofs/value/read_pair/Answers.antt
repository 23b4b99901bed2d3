use Rattle.std.proofs.Common.{None, Some, sym, ◌∙◌, inr}
use Rattle.gs_dlink.specs.ValuesSupport.{written_of}
use Rattle.gs_dlink.proofs.JudgementLemmas.{judged, no_escape, row_found, unknown}
use Rattle.gs_dlink.proofs.PlainValues.{not_spelled}
use Rattle.gs_dlink.proofs.value.read_pair.Goals as goal
use Rattle.gs_chars.proofs.Searches.{find_none}

pub returns-in_default : goal.returns-in_default
returns-in_default c =
    rw c.error_of.ensures
    (inr (unknown c.args.table.now (written_of c.args.written.now) (sym (find_none _ c.args.table.now (sym c.requires ∙ c.in_default.is)))))

pub returns-in_default-2 : goal.returns-in_default-2
returns-in_default-2 c =
    let pair = written_of c.args.written.now in
    let found = row_found c.args.table.now pair c.in-Some.place c.index-rows-place.result (sym c.in-Some.is ∙ c.requires) (rw c.rows.ensures.rows at c.index-rows-place.is) in
    rw c.error_of-in_default-2.ensures
    (inr (no_escape c.args.table.now pair c.index-rows-place.result found (not_spelled pair.value (rw c.in_default-2.is at c.in_ok-value.ensures))))

pub returns : goal.returns
returns c =
    rw c.error_of-in-Err.ensures
    (inr (judged c.args.table.now (written_of c.args.written.now) c.in-Some.place c.index-rows-place.result (sym c.in-Some.is ∙ c.requires) (rw c.rows.ensures.rows at c.index-rows-place.is)
    c.in-Some-2.value c.in_ok-value-2.value (Some c.in-Err.error) (rw c.in-Some-2.is at c.in_ok-value.ensures) c.in_ok-value-2.ensures
    (rw c.as_bytes.ensures at c.in-Err.ensures.error)))

pub returns-in-Ok : goal.returns-in-Ok
returns-in-Ok c =
    rw c.lent.ensures
    (inr (judged c.args.table.now (written_of c.args.written.now) c.in-Some.place c.index-rows-place.result (sym c.in-Some.is ∙ c.requires) (rw c.rows.ensures.rows at c.index-rows-place.is)
    c.in-Some-2.value c.in_ok-value-2.value None (rw c.in-Some-2.is at c.in_ok-value.ensures) c.in_ok-value-2.ensures
    (rw c.as_bytes.ensures at c.in-Ok.ensures.ok)))
