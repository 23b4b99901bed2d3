-- The rejections of a row by the tests that give them, and of rows, row by row.
use Rattle.std.proofs.Common.{◌≡◌, ℕ, ◌+◌, ◌<◌, ◌≤◌, not, Bool, true, false, List, [], ◌++◌, length, take, Option, Some, None, option_map, get_or, refl}
use Rattle.std.specs.Prelude.{Result, Ok, Err, option_to_list}
use Rattle.std.specs.List.{flat_map, enumerate_from}
use Rattle.gs_chars.specs.Answers.{error_if}
use Rattle.gs_chars.proofs.TruthsAndLists.{read_at}
use Rattle.gs_class.specs.declared.error.ClassLoadFault.{ClassLoadFault}
use Rattle.gs_class.specs.AnswersSupport.{IsFirst}
use Rattle.gs_ai.specs.declared.row.AiRow.{AiRow}
use Rattle.gs_class.specs.declared.error.ClassLoadFault.TheVariants.{Limit}
use Rattle.gs_class.specs.declared.document.ClassRow.{ClassRow}
use Rattle.gs_class.specs.Rules.{are_many, class_rejections, row_rejections}
use Rattle.gs_json.proofs.FirstErrors.{all_rows, no_rejections, one_more, rejected_in_front, split_at}

-- the rejections of a row by the tests that they come of
abbrev pub listed : Option ℕ → Option ℕ → (ℕ → ClassLoadFault) → (ℕ → ClassLoadFault) → Bool → Bool → ClassLoadFault → ClassLoadFault → List ClassLoadFault
listed bad twin f twins large fit size mismatch = option_to_list (option_map f bad) ++ error_if large size ++ error_if
    (not fit) mismatch ++ option_to_list (option_map twins twin)

pub bad_first : (bad twin : Option ℕ) (f twins : ℕ → ClassLoadFault) (large fit : Bool) (size mismatch : ClassLoadFault) (k : ℕ)
    → bad ≡ Some k → IsFirst (listed bad twin f twins large fit size mismatch) (Err (f k))
bad_first bad twin f twins large fit size mismatch k e = rw e refl

pub size_next : (bad twin : Option ℕ) (f twins : ℕ → ClassLoadFault) (large fit : Bool) (size mismatch : ClassLoadFault) → bad ≡ None
    → large ≡ true → IsFirst (listed bad twin f twins large fit size mismatch) (Err size)
size_next bad twin f twins large fit size mismatch e g = rw (e, g) refl

pub mismatch_next : (bad twin : Option ℕ) (f twins : ℕ → ClassLoadFault) (large fit : Bool) (size mismatch : ClassLoadFault) → bad ≡ None
    → large ≡ false → fit ≡ false → IsFirst (listed bad twin f twins large fit size mismatch) (Err mismatch)
mismatch_next bad twin f twins large fit size mismatch e g h = rw (e, g, h) refl

pub twin_decides : (bad twin : Option ℕ) (f twins : ℕ → ClassLoadFault) (large fit : Bool) (size mismatch : ClassLoadFault) (answer : Result (Unit {0}) ClassLoadFault)
    → bad ≡ None → large ≡ false → fit ≡ true → IsFirst (option_to_list (option_map twins twin)) answer
    → IsFirst (listed bad twin f twins large fit size mismatch) answer
twin_decides bad twin f twins large fit size mismatch answer e g h i = rw (e, g, h) i

-- ---- row by row

module _ {X : Type 0} (f : ℕ × X → List ClassLoadFault) (rows : List X) where
  pub row_rejected : (i : ℕ) (row : X) (e : ClassLoadFault) → i < length rows → row ≡ get_or rows i row
      → flat_map f (enumerate_from 0 (take i rows)) ≡ [] → IsFirst (f (i, row)) (Err e)
      → IsFirst (flat_map f (enumerate_from 0 rows)) (Err e)
  row_rejected i row e low read none h =
      let split = split_at f rows i row (read_at rows i row low read) none in
      rw split.1 (rejected_in_front (f (i, row)) split.0 (tt {0}) (tt {0}) e h)

  pub row_passed : (i : ℕ) (row : X) (u : Unit {0}) → i < length rows → row ≡ get_or rows i row
      → flat_map f (enumerate_from 0 (take i rows)) ≡ [] → IsFirst (f (i, row)) (Ok u)
      → flat_map f (enumerate_from 0 (take (i + 1) rows)) ≡ []
  row_passed i row u low read none h = one_more f rows i row (read_at rows i row low read) none (no_rejections (f (i, row)) (tt {0}) u h)

  pub rows_passed : (i : ℕ) → length rows ≤ i → flat_map f (enumerate_from 0 (take i rows)) ≡ [] → IsFirst (flat_map f (enumerate_from 0 rows)) (Ok (tt {0}))
  rows_passed i all none = rw (all_rows f rows i all none) refl

-- ---- the limits

pub many_rejected : (ais : List AiRow) (rows : List ClassRow) → are_many rows ≡ true → IsFirst (class_rejections ais rows) (Err Limit)
unfolding class_rejections
many_rejected ais rows h = rw h refl

pub few_judged : (ais : List AiRow) (rows : List ClassRow) (answer : Result (Unit {0}) ClassLoadFault) → are_many rows ≡ false
    → IsFirst (flat_map (row_rejections ais rows) (enumerate_from 0 rows)) answer → IsFirst (class_rejections ais rows) answer
unfolding class_rejections
few_judged ais rows answer h i = rw h i
