use Rattle.gs_chars.proofs.TruthsAndLists.{and_second}
use Rattle.gs_links.specs.Loads.{load_answer}
use Rattle.tdl_loads.proofs.LinkLoads.{store_placed}
use Rattle.tdl_loads.proofs.links.load_store.Goals as goal

pub load-requires : goal.load-requires
load-requires c = rw c.as_bytes.ensures.value (and_second _ _ (and_second _ _ c.requires))

pub returns-in-Ok : goal.returns-in-Ok
returns-in-Ok c =
    store_placed c.args.judging.kind c.args.judging.templates c.args.judging.ais.now
    (load_answer c.args.judging.ais.now c.args.judging.voc.now c.args.doc) c.in-Ok.store c.placed.result
    (rw c.as_bytes.ensures.value at c.in-Ok.ensures) c.placed.ensures
