use Rattle.std.proofs.Common.{sym, ap, ◌∙◌}
use Rattle.gs_ai.specs.declared.row.AiRow.{AiRow}
use Rattle.gs_ai.proofs.TableLemmas.{length_read}
use Rattle.gs_ai.proofs.table.AiTable.predefined.Goals as goal

pub returns : goal.returns
returns c =
    let read = rw c.items.ensures at c.index-items-row.is in
    let low = rw (← c.self.view_is) at c.requires in
    let code = c.as_bytes.ensures ∙ ap (λ (r : AiRow). r.code) (sym c.index-items-row.is) in
    let length = rw code at c.predefined_length.ensures in
    rw (← c.self.view_is) (length ∙ length_read c.self.inside.rows c.args.row c.index-items-row.result low read)
