use Rattle.gs_tables_document.proofs.rows.KindRowRow.read.Goals as goal

pub returns : goal.returns
returns c = record { name = c.in_ok-copy_in.ensures; key = c.in_ok-copy_in-2.ensures; lead = c.number_in.ensures; serial = c.in_ok-copy_in-3.ensures; fields = c.in_ok-read_rows.ensures }
