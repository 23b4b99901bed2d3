use Rattle.std.proofs.Common.{◌≡◌, ◌++◌, replicate}
use Rattle.gs_grammar_level.specs.Fronts.{place_of}
use Rattle.gs_grammar_level.proofs.fronts.add_places.Given as goal

abbrev pub invariant-loop-left : goal.invariant-loop-left
invariant-loop-left l = l.places.items ++ replicate l.left (place_of l.least l.most) ≡ l.fn.places.items ++ replicate l.count (place_of l.least l.most)

abbrev pub decreases-loop-left : goal.decreases-loop-left
decreases-loop-left l = l.left
