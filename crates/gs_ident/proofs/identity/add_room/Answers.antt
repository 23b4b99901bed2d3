use Rattle.std.proofs.Common.{arith}
use Rattle.std.proofs.lemmas.List.{take_all}
use Rattle.gs_ident.proofs.RoomLemmas.{added}
use Rattle.gs_ident.proofs.identity.add_room.Goals as goal

pub loop-pair-init : goal.loop-pair-init
loop-pair-init c = omega arith

pub loop-pair-preserved : goal.loop-pair-preserved
loop-pair-preserved c = added c.args.pairs.now c.loop-pair.pair-index c.pair-item.result c.args.before c.loop-pair.room c.pair_room.result c.saturating_add-room.result c.loop-pair-test.true c.pair-item.is c.loop-pair.invariant c.pair_room.ensures c.saturating_add-room.ensures

pub returns : goal.returns
returns c = rw (take_all c.loop-pair.pair-index c.args.pairs.now c.loop-pair-test.false) at c.loop-pair.invariant
