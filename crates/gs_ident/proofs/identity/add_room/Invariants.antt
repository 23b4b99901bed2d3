use Rattle.std.proofs.Common.{◌≡◌, ◌+◌, ◌-◌, ◌^◌, min, take}
use Rattle.gs_ident.specs.Room.{room_of_pairs}
use Rattle.gs_ident.proofs.identity.add_room.Given as goal

abbrev pub invariant-loop-pair : goal.invariant-loop-pair
invariant-loop-pair l = l.room ≡ min (l.before + room_of_pairs (take l.pair-index l.pairs)) (2 ^ 64 - 1)
