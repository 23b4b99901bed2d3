use Rattle.std.proofs.Common.{ap, is_none, ◌∙◌}
use Rattle.gs_element.proofs.RawLemmas.{length_by_row, some_row}
use Rattle.gs_element.proofs.writer.is_open.Goals as goal

pub returns-in_default : goal.returns-in_default
returns-in_default c = absurd (some_row c.args.table.now c.args.pair.now.code c.args.pair.now.value (rw c.as_bytes.ensures at c.in_default.ensures.row) c.requires.fits)

pub returns-in-Some-predefined : goal.returns-in-Some-predefined
returns-in-Some-predefined c =
    let place = rw c.as_bytes.ensures at c.in-Some.ensures.row in
    ap is_none (c.in-Some-predefined.ensures ∙ length_by_row c.args.table.now c.args.pair.now.code c.in-Some.row place)

pub returns-in-None : goal.returns-in-None
returns-in-None c =
    let place = rw c.as_bytes.ensures at c.in-Some.ensures.row in
    ap is_none (c.in-None.ensures ∙ length_by_row c.args.table.now c.args.pair.now.code c.in-Some.row place)
