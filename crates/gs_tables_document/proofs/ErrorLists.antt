-- Lists of errors and of rejections, row by row, and the first of them.
use Rattle.std.proofs.Common.{◌≡◌, ℕ, suc, ◌+◌, ◌<◌, ◌≤◌, List, [], ◌∷◌, length, take, Some, slice_get, get_or, refl, arith}
use Rattle.std.specs.Prelude.{Err}
use Rattle.std.specs.List.{flat_map, enumerate_from}
use Rattle.std.proofs.lemmas.List.{take_all}
use Rattle.gs_json.specs.Shapes.{first_error}
use Rattle.gs_json.specs.declared.error.JsonFault.{JsonFault}
use Rattle.gs_ai.proofs.RuleLemmas.{first_at, none_more}
use Rattle.gs_chars.proofs.TruthsAndLists.{read_at}

-- ---- a loop over rows

-- the first rejection, found at a row after rows without one
pub first_row : {X E : Type 0} (f : ℕ × X → List E) (rows : List X) (i : ℕ) (row : X) (e : E) → i < length rows → row ≡ get_or rows i row
    → flat_map f (enumerate_from 0 (take i rows)) ≡ [] → slice_get (f (i, row)) 0 ≡ Some e
    → slice_get (flat_map f (enumerate_from 0 rows)) 0 ≡ Some e
first_row f rows i row e low read none h =
    let at = read_at rows i row low read in
    let zero_plus : i ≡ 0 + i = omega arith in
    first_at f 0 rows i row e at none (rw zero_plus at h)

-- one more row without a rejection
pub more_row : {X E : Type 0} (f : ℕ × X → List E) (rows : List X) (i : ℕ) (row : X) → i < length rows → row ≡ get_or rows i row
    → flat_map f (enumerate_from 0 (take i rows)) ≡ [] → f (i, row) ≡ [] → flat_map f (enumerate_from 0 (take (i + 1) rows)) ≡ []
more_row f rows i row low read none h =
    let at = read_at rows i row low read in
    let zero_plus : i ≡ 0 + i = omega arith in
    let next : i + 1 ≡ suc i = omega arith in
    rw next (none_more f 0 rows i row at none (rw zero_plus at h))

-- all rows are without a rejection
pub all_rows : {X E : Type 0} (f : ℕ × X → List E) (rows : List X) (i : ℕ) → length rows ≤ i
    → flat_map f (enumerate_from 0 (take i rows)) ≡ [] → flat_map f (enumerate_from 0 rows) ≡ []
all_rows f rows i all none = rw (take_all i rows all) at none

-- ---- the first error of a form

pub error_at : (errors : List JsonFault) (error : JsonFault) → Err error ≡ first_error errors → slice_get errors 0 ≡ Some error
error_at [] error h = absurd (cc)
error_at (x ∷ errors) error h = let same : error ≡ x = cc in rw same refl
