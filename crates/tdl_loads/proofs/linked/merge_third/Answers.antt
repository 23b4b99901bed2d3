use Rattle.gs_links.specs.Loads.{load_answer}
use Rattle.std.proofs.Common.{false}
use Rattle.tdl_loads.specs.Loads.{store_verdict}
use Rattle.tdl_loads.proofs.LinkLoads.{store_merged}
use Rattle.tdl_loads.proofs.linked.merge_third.Goals as goal

pub returns-in-Ok : goal.returns-in-Ok
returns-in-Ok c =
    let verdict = store_verdict false c.args.ais.now (load_answer c.args.ais.now c.args.voc.now c.args.merged) in
    rw c.in-Some.is (store_merged c.args.ais.now verdict c.in-Ok.store c.in-Some.third c.merge_two.result c.in-Ok.ensures c.merge_two.ensures)
