use Rattle.gs_tables_document.proofs.rows.AiRowRow.read.Goals as goal

pub returns : goal.returns
returns c =
    let lists = c.in_ok-parts.ensures in
    record { code = c.in_ok-code.ensures; parts = lists.0; role = c.role_in-role.ensures; qualifiers = lists.1; short = c.truth_in-short.ensures; none = c.in_ok-none.ensures }
