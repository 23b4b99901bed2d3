-- The first rejection of rows as an answer.
use Rattle.std.proofs.Common.{◌≡◌, ℕ, Bool, not, true, false, List, [], ◌∷◌, ◌++◌, map, take, Some, slice_get, refl, ap}
use Rattle.std.specs.Prelude.{Result, Ok, Err}
use Rattle.gs_chars.proofs.TruthsAndLists.{first_of_front}
use Rattle.gs_ai.specs.declared.row.AiRow.{AiRow}
use Rattle.gs_tables_document.specs.declared.document.KindRow.{KindRow}
use Rattle.gs_tables_document.specs.declared.error.LoadFault.{LoadFault}
use Rattle.gs_tables_document.specs.declared.error.LoadFault.TheVariants.{Json, Version, Limit, Ai, BadKind, BadItem, Mismatch, Duplicate, Ambiguous, Memory}
use Rattle.gs_tables.specs.Rules.{is_kind}
use Rattle.gs_chars.specs.Answers.{error_if}
use Rattle.gs_tables.specs.Tables.{IsAnswer, is_version, kind_rejections}
use Rattle.gs_tables.specs.TablesSupport.{IsFirst}

-- ---- answers by rejections

-- the first item of a list, and of the list that is mapped from it
pub first_mapped : {A B : Type 0} (f : A → B) (xs : List A) (x : A) → slice_get xs 0 ≡ Some x → slice_get (map f xs) 0 ≡ Some (f x)
first_mapped f [] x h = cc
first_mapped f (y ∷ ys) x h = let e : y ≡ x = cc in ap (λ z. Some (f z)) e

-- another version is rejected
pub version_first : (version : ℕ) (test : Bool) → test ≡ is_version version → test ≡ false
    → slice_get (error_if (not (is_version version)) Version) 0 ≡ Some Version
version_first version test is other = rw (← is, other) refl

-- the first of two concatenated lists of rejections
pub first_in_front : (a b : List LoadFault) (e : LoadFault) → IsFirst a (Err e) → IsFirst (a ++ b) (Err e)
first_in_front a b e h = first_of_front a b e h

pub first_behind : (a b : List LoadFault) (answer : Result (Unit {0}) LoadFault) → IsFirst a (Ok tt) → IsFirst b answer → IsFirst (a ++ b) answer
first_behind a b answer none h = rw none h

-- the first rejection is the answer
pub rejected : {X : Type 0} (rejections : List LoadFault) (made : X) (e : LoadFault) → slice_get rejections 0 ≡ Some e → IsAnswer rejections made (Err e)
rejected rejections made (Json error) h = h
rejected rejections made Version h = h
rejected rejections made (Limit name) h = h
rejected rejections made (Ai error) h = h
rejected rejections made (BadKind i) h = h
rejected rejections made (BadItem level i k) h = h
rejected rejections made (Mismatch level i) h = h
rejected rejections made (Duplicate level j i) h = h
rejected rejections made (Ambiguous level i j text) h = h
rejected rejections made Memory h = tt

-- the answer by a list is that by a longer one with nothing at the start
pub rejected_behind : {X Y : Type 0} (a b c : List LoadFault) (x : X) (y : Y) (e : LoadFault) → a ≡ [] → IsAnswer b x (Err e)
    → IsAnswer (a ++ (b ++ c)) y (Err e)
rejected_behind a b c x y (Json error) none h = rw none (first_of_front b c (Json error) h)
rejected_behind a b c x y Version none h = rw none (first_of_front b c Version h)
rejected_behind a b c x y (Limit name) none h = rw none (first_of_front b c (Limit name) h)
rejected_behind a b c x y (Ai error) none h = rw none (first_of_front b c (Ai error) h)
rejected_behind a b c x y (BadKind i) none h = rw none (first_of_front b c (BadKind i) h)
rejected_behind a b c x y (BadItem level i k) none h = rw none (first_of_front b c (BadItem level i k) h)
rejected_behind a b c x y (Mismatch level i) none h = rw none (first_of_front b c (Mismatch level i) h)
rejected_behind a b c x y (Duplicate level j i) none h = rw none (first_of_front b c (Duplicate level j i) h)
rejected_behind a b c x y (Ambiguous level i j text) none h = rw none (first_of_front b c (Ambiguous level i j text) h)
rejected_behind a b c x y Memory none h = tt

-- ---- the rejection of a kind

pub kind_rejected : (ais : List AiRow) (kinds : List KindRow) (i : ℕ) (kind : KindRow) → is_kind ais (take i kinds) kind ≡ false
    → slice_get (kind_rejections ais kinds (i, kind)) 0 ≡ Some (BadKind i)
kind_rejected ais kinds i kind h = rw h refl

pub kind_in_order : (ais : List AiRow) (kinds : List KindRow) (i : ℕ) (kind : KindRow) → is_kind ais (take i kinds) kind ≡ true
    → kind_rejections ais kinds (i, kind) ≡ []
kind_in_order ais kinds i kind h = rw h refl
