use Rattle.gs_tables_document.proofs.rows.lists_in.Goals as goal

pub returns : goal.returns
returns c = (c.in_ok-read_rows.ensures, c.in_ok-read_rows-2.ensures)
