use Rattle.tdl_loads.proofs.LinkLoads.{misplaced_links, placed_links}
use Rattle.tdl_loads.proofs.links.placed.Goals as goal

pub returns-in-Ok : goal.returns-in-Ok
returns-in-Ok c = placed_links c.args.judging.templates c.args.judging.ais.now c.args.store c.if-not-judging.false c.in-Ok.ensures

pub returns-in-Err : goal.returns-in-Err
returns-in-Err c = misplaced_links c.args.judging.kind c.args.judging.templates c.args.judging.ais.now c.args.store c.in-Err.error c.if-not-judging.false c.in-Err.ensures
