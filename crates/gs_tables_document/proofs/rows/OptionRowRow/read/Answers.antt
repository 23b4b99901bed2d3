use Rattle.gs_tables_document.proofs.rows.OptionRowRow.read.Goals as goal

pub returns : goal.returns
returns c = record { kind = c.in_ok-copy_in.ensures; encoding = c.in_ok-copy_in-2.ensures; gcp = c.number_in.ensures; items = c.in_ok-read_rows.ensures }
