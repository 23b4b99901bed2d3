use Rattle.gs_ident.proofs.LinkLemmas as laws
use Rattle.gs_ident.proofs.spelling.one_link_each.Goals as goal

pub returns : goal.returns
returns c = laws.one_link_each c.args.table.now c.rows.ensures.kept
