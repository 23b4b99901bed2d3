-- Definitions for proofs and private functions, in addition to Numbers.antt.
use Rattle.std.specs.Prelude.{◌≡◌, ◌<◌, ◌≤◌, ℕ, List, length, Some, slice_get}
use Rattle.gs_tables_document.specs.declared.document.OptInfo.{OptInfo}
use Rattle.gs_tables.specs.Numbers.{numbers_of}

-- holds if the lists are those of a kind, by prefix length from 0 on
abbrev pub AreOfLengths : List OptInfo → ℕ → List (List ℕ) → Type 0
AreOfLengths infos kind lists = (gcp : ℕ) (numbers : List ℕ) → slice_get lists gcp ≡ Some numbers → numbers ≡ numbers_of kind gcp infos

-- holds if these are the lists of a kind, for the prefix lengths 0 to 12
pub record OfKind (infos : List OptInfo) (kind : ℕ) (lists : List (List ℕ)) : Type 0 where
  pub count : length lists ≡ 13
  pub lengths : AreOfLengths infos kind lists

-- holds if these are the lists of each kind, from the first on
abbrev pub AreOfKinds : List OptInfo → List (List (List ℕ)) → Type 0
AreOfKinds infos kinds = (kind : ℕ) (lists : List (List ℕ)) → slice_get kinds kind ≡ Some lists → OfKind infos kind lists

-- holds if each option is of one of that many kinds, and its prefix length is at most 12
abbrev pub AreWithin : List OptInfo → ℕ → Type 0
AreWithin infos count = (i : ℕ) (info : OptInfo) → slice_get infos i ≡ Some info → (info.kind < count) × (info.gcp ≤ 12)

-- holds if the lists are those of all kinds and prefix lengths of the options
pub record AreNumbered (infos : List OptInfo) (kinds : List (List (List ℕ))) : Type 0 where
  pub within : AreWithin infos (length kinds)
  pub numbers : AreOfKinds infos kinds
