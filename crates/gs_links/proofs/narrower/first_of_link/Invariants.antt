use Rattle.std.proofs.Common.{◌≡◌, ◌<◌, ◌≤◌, ℕ, List, Some, false, slice_get}
use Rattle.gs_links.specs.Languages.{matches}
use Rattle.gs_links.proofs.narrower.first_of_link.Given as goal

abbrev pub invariant-loop-k : goal.invariant-loop-k
invariant-loop-k l = (j : ℕ) (range : List ℕ) → l.from ≤ j → j < l.k → slice_get l.ranges j ≡ Some range → matches range l.link ≡ false
