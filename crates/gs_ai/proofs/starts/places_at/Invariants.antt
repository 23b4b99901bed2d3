use Rattle.std.proofs.Common.{◌≡◌, ◌++◌, drop}
use Rattle.gs_ai.specs.TablesSupport.{places_at, places_from}
use Rattle.gs_ai.proofs.starts.places_at.Given as goal

-- the places so far, and those of the rows that are left
abbrev pub invariant-loop-i : goal.invariant-loop-i
invariant-loop-i l = l.places.items ++ places_from l.start l.i (drop l.i l.rows) ≡ places_at l.start l.rows
