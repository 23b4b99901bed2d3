use Rattle.gs_dlink.proofs.KeyPaths.{at_most_one, found_is_path, path_found}
use Rattle.gs_dlink.proofs.laws.one_key_path.Goals as goal

pub returns-clause-one : goal.returns-clause-one
returns-clause-one c = at_most_one c.args.table.now c.rows.ensures.kept

pub returns-clause-found : goal.returns-clause-found
returns-clause-found c = λ segments path. (found_is_path c.args.table.now segments path, path_found c.args.table.now c.rows.ensures.kept segments path)
