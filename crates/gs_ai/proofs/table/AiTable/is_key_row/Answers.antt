use Rattle.std.proofs.Common.{sym, ◌∙◌}
use Rattle.gs_ai.proofs.TableLemmas.{key_by_row}
use Rattle.gs_ai.specs.Values.{has_code}
use Rattle.gs_ai.proofs.table.AiTable.is_key_row.Goals as goal
use Rattle.gs_chars.proofs.Searches.{find_read}

pub returns : goal.returns
returns c = λ code place.
    let rules = rw c.self.view_is at c.self.invariant.0 in
    let own = rw c.self.view_is at (rw c.items.ensures at c.index-items-row.is) in
    let row = find_read (has_code code) c.args.self.now c.args.row c.index-items-row.result place own in
    rw (← c.index-items-row.is) at c.is_key.ensures ∙ sym (key_by_row c.args.self.now rules code c.index-items-row.result row)
