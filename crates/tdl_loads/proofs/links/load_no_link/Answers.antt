use Rattle.tdl_loads.proofs.LinkLoads.{no_link}
use Rattle.tdl_loads.proofs.links.load_no_link.Goals as goal

pub returns : goal.returns
returns c = rw (no_link c.args.ais.now c.args.voc.now) at (rw c.no_context.ensures at c.load_store.ensures)
