use Rattle.std.proofs.Common.{◌≡◌, take}
use Rattle.gs_json.specs.Steps.{place_of}
use Rattle.gs_json.proofs.place.Place.pointer.Given as goal

abbrev pub invariant-loop-step : goal.invariant-loop-step
invariant-loop-step l = l.text.items ≡ place_of (take l.step-index l.step-items)
