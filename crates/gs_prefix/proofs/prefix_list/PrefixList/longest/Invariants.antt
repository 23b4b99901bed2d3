use Rattle.std.proofs.Common.{◌≡◌, ◌<◌, ◌≤◌, ℕ, None, find, length, take}
use Rattle.gs_prefix.specs.Lengths.{has_prefix}
use Rattle.gs_prefix.proofs.prefix_list.PrefixList.longest.Given as goal

-- no longer prefix of the digits is an entry
abbrev pub invariant-loop-n : goal.invariant-loop-n
invariant-loop-n l = (k : ℕ) → l.n ≤ k → k < 13 → k ≤ length l.digits → find (has_prefix (take k l.digits)) l.self ≡ None
