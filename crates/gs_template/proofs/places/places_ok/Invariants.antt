use Rattle.std.proofs.Common.{◌∷◌}
use Rattle.gs_template.specs.Progress.{AreErrorsFrom}
use Rattle.gs_template.proofs.places.places_ok.Given as goal

abbrev pub invariant-loop-i : goal.invariant-loop-i
invariant-loop-i l = AreErrorsFrom (l.key ∷ l.qualifiers) l.href l.i l.further
