-- Lists of symbols that machines share, and the answer of the check.
use Rattle.std.specs.Prelude.{◌≡◌, ℕ, ◌<◌, ◌≤◌, ◌⊎◌, List, Some, slice_get}
use Rattle.gs_ambig.specs.Machines.{AutoForm}
use Rattle.gs_ambig.specs.MachinesSupport.{Accepts}
use Rattle.gs_ambig.specs.declared.pair_search.Verdict.{Verdict}
use Rattle.gs_ambig.specs.declared.pair_search.Verdict.TheVariants.{Clear, Double}

-- trusted, own: holds if `symbols` have an accepting run of machine `i` and one of machine `j`, which differ if `i` is `j`
pub record Share (machines : List AutoForm) (i j : ℕ) (symbols : List ℕ) : Type 0 where
  pub one : AutoForm
  pub other : AutoForm
  pub one_at : slice_get machines i ≡ Some one
  pub other_at : slice_get machines j ≡ Some other
  pub run : List ℕ
  pub other_run : List ℕ
  pub accepts : Accepts one run symbols
  pub other_accepts : Accepts other other_run symbols
  pub differ : i ≡ j → run ≡ other_run → ⊥

-- holds if no list of symbols is shared by machine i and machine j
abbrev pub ShareNothing : List AutoForm → ℕ → ℕ → Type 0
ShareNothing machines i j = (symbols : List ℕ) → Share machines i j symbols → ⊥

-- trusted, own: holds if the pair `k`, `l` is before the pair `i`, `j`, by the first number and then by the second
abbrev pub IsBefore : ℕ → ℕ → ℕ → ℕ → Type 0
IsBefore k l i j = (k < i) ⊎ ((k ≡ i) × (l < j))

-- trusted, own: holds if `i`, `j`, with `i` at most `j`, is the first pair that shares a list, and it shares `word`
pub record IsFirstDouble (machines : List AutoForm) (i j : ℕ) (word : List ℕ) : Type 0 where
  pub order : i ≤ j
  pub share : Share machines i j word
  pub first : (k l : ℕ) (symbols : List ℕ) → k ≤ l → IsBefore k l i j → Share machines k l symbols → ⊥

-- trusted, own: holds if the verdict is `Clear` and no machines share a list, or names the first pair that does, and such a
-- list
abbrev pub IsVerdict : List AutoForm → Verdict → Type 0
IsVerdict machines Clear = (i j : ℕ) (symbols : List ℕ) → Share machines i j symbols → ⊥
IsVerdict machines (Double i j word) = IsFirstDouble machines i j word

-- holds if machine i shares no list of symbols with itself, or with a machine after it and before this one
abbrev pub SharesNone : List AutoForm → ℕ → ℕ → Type 0
SharesNone machines i before = (j : ℕ) (symbols : List ℕ) → i ≤ j → j < before → Share machines i j symbols → ⊥

-- holds if machine j is the first, from i on, that shares a list of symbols with machine i, and they share this word
pub record IsFirstFrom (machines : List AutoForm) (i j : ℕ) (word : List ℕ) : Type 0 where
  pub order : i ≤ j
  pub share : Share machines i j word
  pub first : SharesNone machines i j
