use Rattle.gs_dlink.proofs.OrderLemmas.{code_there, none_there}
use Rattle.gs_dlink.proofs.path.is_code_at.Goals as goal

pub returns-in-Some : goal.returns-in-Some
returns-in-Some c =
    let found = c.in-Some.ensures.lookup in
    code_there c.args.pairs.now c.args.index c.args.code.now c.in-Some.pair.now c.same_code.result found.3.0 found.1 c.same_code.ensures

pub returns-in-None : goal.returns-in-None
returns-in-None c = none_there c.args.pairs.now c.args.index c.args.code.now c.in-None.ensures.lookup.3
