use Rattle.std.proofs.Common.{◌≡◌, ◌++◌, take}
use Rattle.tdl_messages.specs.Rejections.{shown}
use Rattle.tdl_messages.proofs.rejections.append_place.Given as goal

abbrev pub invariant-loop-c : goal.invariant-loop-c
invariant-loop-c l = l.out.items ≡ l.initial.out.items ++ shown (take l.c-index l.place)
