use Rattle.std.proofs.Common.{◌≡◌, map, take}
use Rattle.gs_tables.specs.PlacesSupport.{places_of}
use Rattle.gs_tables.proofs.kind_places.places_of.Given as goal

abbrev pub invariant-loop-kind : goal.invariant-loop-kind
invariant-loop-kind l = l.places.items ≡ map (places_of l.ais) (take l.kind-index l.kinds)
