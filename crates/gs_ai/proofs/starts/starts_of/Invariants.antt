use Rattle.std.proofs.Common.{◌≡◌, ◌<◌, ℕ, length, Some, slice_get}
use Rattle.gs_ai.specs.TablesSupport.{places_at}
use Rattle.gs_ai.proofs.starts.starts_of.Given as goal

-- the lists of the numbers so far
abbrev pub invariant-loop-start : goal.invariant-loop-start
invariant-loop-start l = record { count : length l.starts.items ≡ l.start; lists : (k : ℕ) → k < l.start → slice_get l.starts.items k ≡ Some (places_at k l.rows) }
