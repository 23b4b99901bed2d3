-- The numbers of ranges by their bytes. They are not a part of the meaning of a choice.
use Rattle.std.specs.Prelude.{◌≡◌, ℕ, ◌≤◌, true, List, take, drop, slice_get, Some}
use Rattle.std.specs.BTreeMap.{get_by}
use Rattle.std.specs.Cmp.Lexicographic.{slice_cmp}
use Rattle.std.specs.Option.{unwrap_or}
use Rattle.std.specs.Ordering.{nat_cmp}
use Rattle.gs_links.specs.Languages.{is_cut, lowered}
use Rattle.gs_links.specs.declared.ranges.Numbers.{Numbers}

-- the number at a text, and 2^64 - 1 if there is none
unfoldable pub number_at : Numbers → List ℕ → ℕ
number_at numbers text = unwrap_or (get_by (λ key. slice_cmp nat_cmp text key.items) numbers.first) 18446744073709551615

-- holds if at the text of each range in lower case is its number, or a lower one
abbrev pub IsNumbered : Numbers → List (List ℕ) → Type 0
IsNumbered numbers ranges = (k : ℕ) (range : List ℕ) → slice_get ranges k ≡ Some range → number_at numbers (lowered range) ≤ k

-- holds if a number is at most that at each prefix of the tag in lower case that a range may be
abbrev pub IsLeastOfLowered : Numbers → List ℕ → ℕ → Type 0
IsLeastOfLowered numbers tag least = (n : ℕ) → is_cut (drop n tag) ≡ true → least ≤ number_at numbers (take n tag)

-- holds if a number is at most that at each prefix of the tag that a range may be
abbrev pub IsLeast : Numbers → List ℕ → ℕ → Type 0
IsLeast numbers tag least = (n : ℕ) → is_cut (drop n tag) ≡ true → least ≤ number_at numbers (lowered (take n tag))
