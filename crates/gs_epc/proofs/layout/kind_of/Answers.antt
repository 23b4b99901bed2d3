use Rattle.std.proofs.Common.{arith}
use Rattle.gs_epc.proofs.KeptLaws.{kind_read, kind_within}
use Rattle.gs_epc.proofs.layout.kind_of.Goals as goal

pub offset_bounds-kinds-epc : goal.offset_bounds-kinds-epc
offset_bounds-kinds-epc c =
    let within = kind_within c.args.set.now c.args.epc.now c.kinds.result.now c.kinds.ensures.rows c.kinds.ensures.shaped c.requires in
    omega arith

pub bounds-kinds-epc : goal.bounds-kinds-epc
bounds-kinds-epc c = kind_within c.args.set.now c.args.epc.now c.kinds.result.now c.kinds.ensures.rows c.kinds.ensures.shaped c.requires

pub returns-clause-named : goal.returns-clause-named
returns-clause-named c = (kind_read c.args.set.now c.args.epc.now c.kinds.result.now c.index-kinds-epc.result c.kinds.ensures.rows c.kinds.ensures.shaped c.requires c.index-kinds-epc.is).0

pub returns-clause-fit : goal.returns-clause-fit
returns-clause-fit c = (kind_read c.args.set.now c.args.epc.now c.kinds.result.now c.index-kinds-epc.result c.kinds.ensures.rows c.kinds.ensures.shaped c.requires c.index-kinds-epc.is).1
