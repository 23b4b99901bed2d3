-- Definitions for proofs and private functions, in addition to Lengths.antt.
use Rattle.std.specs.Prelude.{ℕ, Bool, ◌&&◌, nat_le, List, [], ◌∷◌, ◌++◌, length, map, Vec}
use Rattle.std.specs.declared.alloc.Global.{Global}
use Rattle.gs_prefix.specs.declared.entry.PrefixEntry.{PrefixEntry}
use Rattle.gs_prefix.specs.Lengths.{is_prefix}

-- the entries of prefixes and their lengths
abbrev pub entries_of : List (Vec ℕ Global × ℕ) → List PrefixEntry
entries_of pairs = map (λ pair. record { prefix = pair.0.items; length = pair.1 }) pairs

-- holds if a list may have `entry`
abbrev pub is_entry : PrefixEntry → Bool
is_entry entry = is_prefix entry.prefix && nat_le entry.length 12

-- the entries, and then one of this prefix and length
abbrev pub with_entry : List PrefixEntry → List ℕ → ℕ → List PrefixEntry
with_entry entries prefix length = entries ++ (record { prefix = prefix; length = length }) ∷ []
