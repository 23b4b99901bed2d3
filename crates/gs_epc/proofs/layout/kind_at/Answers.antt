use Rattle.std.proofs.Common.{arith}
use Rattle.gs_epc.proofs.KeptLaws.{kind_at_place, kind_within}
use Rattle.gs_epc.proofs.layout.kind_at.Goals as goal

pub offset_bounds-kinds-index : goal.offset_bounds-kinds-index
offset_bounds-kinds-index c =
    let within = kind_within c.args.set.now c.requires.0 c.kinds.result.now c.kinds.ensures.rows c.kinds.ensures.shaped c.requires.1 in
    let here = c.requires.2 in
    omega arith

pub bounds-kinds-index : goal.bounds-kinds-index
bounds-kinds-index c =
    rw c.requires.2 at (kind_within c.args.set.now c.requires.0 c.kinds.result.now c.kinds.ensures.rows c.kinds.ensures.shaped c.requires.1)

pub returns-clause-named : goal.returns-clause-named
returns-clause-named c =
    (kind_at_place c.args.set.now c.requires.0 c.kinds.result.now c.index-kinds-index.result c.args.index c.requires.2 c.kinds.ensures.rows c.kinds.ensures.shaped c.requires.1 c.index-kinds-index.is).0

pub returns-clause-fit : goal.returns-clause-fit
returns-clause-fit c = λ epc of_set here.
    (kind_at_place c.args.set.now epc c.kinds.result.now c.index-kinds-index.result c.args.index here c.kinds.ensures.rows c.kinds.ensures.shaped of_set c.index-kinds-index.is).1
