use Rattle.std.proofs.Common.{◌≡◌, Some, slice_get}
use Rattle.gs_ai.specs.Values.{has_code}
use Rattle.gs_chars.proofs.TruthsAndLists.{read_at}
use Rattle.gs_ident.proofs.MovedPairs.{row_distinct}
use Rattle.gs_ident.proofs.maker.listed_codes.Goals as goal
use Rattle.gs_chars.proofs.Searches.{find_read}

pub returns-clause-codes : goal.returns-clause-codes
returns-clause-codes c = λ key of_row.
    let own = rw c.rows.ensures.rows at c.index-rows-row.is in
    let found = find_read (has_code key.code) c.args.table.now c.args.row c.index-rows-row.result of_row own in
    rw found (rw (← c.index-rows-row.is) at c.items.ensures)

pub returns-clause-distinct : goal.returns-clause-distinct
returns-clause-distinct c =
    let own = rw c.rows.ensures.rows at c.index-rows-row.is in
    let at : slice_get c.args.table.now c.args.row ≡ Some c.index-rows-row.result = read_at c.args.table.now c.args.row c.index-rows-row.result c.requires own in
    rw (rw (← c.index-rows-row.is) at c.items.ensures) (row_distinct c.index-rows-row.result (c.rows.ensures.kept.rows_in_order c.args.row c.index-rows-row.result at).0)

pub returns-clause-no_key : goal.returns-clause-no_key
returns-clause-no_key c =
    let own = rw c.rows.ensures.rows at c.index-rows-row.is in
    let at : slice_get c.args.table.now c.args.row ≡ Some c.index-rows-row.result = read_at c.args.table.now c.args.row c.index-rows-row.result c.requires own in
    rw (rw (← c.index-rows-row.is) at c.items.ensures) (c.rows.ensures.kept.lists_qualifiers c.args.row c.index-rows-row.result at).1
