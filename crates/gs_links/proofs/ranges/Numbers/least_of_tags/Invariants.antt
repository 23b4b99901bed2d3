use Rattle.std.proofs.Common.{◌≡◌, ◌≤◌, ℕ, List, Some, codes, slice_get, take}
use Rattle.gs_links.specs.Numbers.{IsLeast, number_at}
use Rattle.gs_links.proofs.ranges.Numbers.least_of_tags.Given as goal

abbrev pub invariant-loop-tag : goal.invariant-loop-tag
invariant-loop-tag l =
    (l.least ≤ number_at l.self (codes "*"))
    × ((t : ℕ) (tag : List ℕ) → slice_get (take l.tag-index l.tags) t ≡ Some tag → IsLeast l.self tag l.least)
