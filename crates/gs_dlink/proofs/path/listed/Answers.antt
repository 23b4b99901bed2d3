use Rattle.std.proofs.Common.{refl, ap, sym, ◌∙◌}
use Rattle.gs_ai.specs.declared.row.AiRow.{AiRow}
use Rattle.gs_ai.specs.Values.{has_code}
use Rattle.gs_dlink.proofs.path.listed.Goals as goal
use Rattle.gs_chars.proofs.Searches.{find_none, find_read}

pub returns-in-Some : goal.returns-in-Some
returns-in-Some c =
    let read = rw c.rows.ensures.rows at c.index-rows-row.is in
    let found = find_read (has_code c.args.key.now.code.now) c.args.table.now c.in-Some.row c.index-rows-row.result (sym c.requires ∙ c.in-Some.is) read in
    rw found (c.items.ensures ∙ ap (λ (row : AiRow). row.qualifiers) (sym c.index-rows-row.is))

pub returns-in-None : goal.returns-in-None
returns-in-None c = rw (find_none (has_code c.args.key.now.code.now) c.args.table.now (sym c.requires ∙ c.in-None.is)) refl
