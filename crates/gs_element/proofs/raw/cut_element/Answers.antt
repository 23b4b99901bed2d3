use Rattle.std.proofs.Common.{ap, refl, sym, ◌∙◌}
use Rattle.std.specs.Option.{option_and_then}
use Rattle.gs_ai.specs.declared.row.AiRow.{AiRow}
use Rattle.gs_ai.specs.PredefinedLengths.{predefined_length}
use Rattle.gs_element.proofs.RawLemmas.{cut_at, front_row, judged, value_within}
use Rattle.gs_element.proofs.raw.cut_element.Goals as goal
use Rattle.gs_chars.proofs.Searches.{find_none}

pub returns-in_default-clause-error : goal.returns-in_default-clause-error
returns-in_default-clause-error c = rw (find_none _ c.args.table.now (sym c.in_default.ensures.row)) refl

pub split_at-requires : goal.split_at-requires
split_at-requires c =
    let row = front_row c.args.table.now c.rows.ensures.kept c.args.text.now c.in-Some.row c.index-rows-row.result c.in-Some.ensures.row (rw c.rows.ensures.rows at c.index-rows-row.is) in
    rw (c.as_bytes.ensures ∙ ap (λ (r : AiRow). r.code) (sym c.index-rows-row.is)) row.fits

pub cut_value-value-requires : goal.cut_value-value-requires
cut_value-value-requires c =
    let row = front_row c.args.table.now c.rows.ensures.kept c.args.text.now c.in-Some.row c.index-rows-row.result c.in-Some.ensures.row (rw c.rows.ensures.rows at c.index-rows-row.is) in
    let own = c.as_bytes.ensures ∙ ap (λ (r : AiRow). r.code) (sym c.index-rows-row.is) in
    let front = rw own at c.split_at.ensures.front in
    let code = front ∙ sym row.front in
    c.predefined.ensures ∙ ap (option_and_then (λ r. predefined_length r.code)) row.at ∙ ap predefined_length (sym code)

pub returns-in-Err-clause-error : goal.returns-in-Err-clause-error
returns-in-Err-clause-error c =
    let row = front_row c.args.table.now c.rows.ensures.kept c.args.text.now c.in-Some.row c.index-rows-row.result c.in-Some.ensures.row (rw c.rows.ensures.rows at c.index-rows-row.is) in
    let own = c.as_bytes.ensures ∙ ap (λ (r : AiRow). r.code) (sym c.index-rows-row.is) in
    let front = rw own at c.split_at.ensures.front in
    let back = rw own at c.split_at.ensures.back in
    judged c.args.table.now c.rows.ensures.kept c.args.text.now c.in-Some.row c.index-rows-row.result c.split_at.result.0.now c.split_at.result.1.now c.cut_value-value.result.now row (front ∙ sym row.front) back c.cut_value-value.ensures ∙ c.in-Err.ensures.error

pub returns-clause-cut : goal.returns-clause-cut
returns-clause-cut c =
    let row = front_row c.args.table.now c.rows.ensures.kept c.args.text.now c.in-Some.row c.index-rows-row.result c.in-Some.ensures.row (rw c.rows.ensures.rows at c.index-rows-row.is) in
    let own = c.as_bytes.ensures ∙ ap (λ (r : AiRow). r.code) (sym c.index-rows-row.is) in
    let front = rw own at c.split_at.ensures.front in
    let back = rw own at c.split_at.ensures.back in
    cut_at c.args.table.now c.rows.ensures.kept c.args.text.now c.in-Some.row c.index-rows-row.result c.split_at.result.0.now c.split_at.result.1.now c.cut_value-value.result.now c.without_separator-rest.result.now row (front ∙ sym row.front) back c.cut_value-value.ensures c.in_default-row_value_ok.ensures.ok (rw c.split_at-2.ensures.back at c.without_separator-rest.ensures)

pub bounds-rows-row : goal.bounds-rows-row
bounds-rows-row c = rw c.rows.ensures.rows c.in-Some.ensures.within

pub split_at-requires-2 : goal.split_at-requires-2
split_at-requires-2 c = value_within c.split_at.result.0.now c.split_at.result.1.now c.cut_value-value.result.now c.cut_value-value.ensures
