use Rattle.gs_tables.proofs.builtin_set.builtin.Goals as goal

pub returns : goal.returns
returns c = rw c.in_ok-document.ensures at c.of_rows.ensures
