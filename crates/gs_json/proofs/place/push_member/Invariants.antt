use Rattle.std.proofs.Common.{◌≡◌, take}
use Rattle.gs_json.specs.Places.{member_place}
use Rattle.gs_json.proofs.place.push_member.Given as goal

abbrev pub invariant-loop-c : goal.invariant-loop-c
invariant-loop-c l = l.text.items ≡ member_place l.fn.text.items (take l.c-index l.name)
