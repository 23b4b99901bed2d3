-- The facts that a valid row gives about its code and its parts.
use Rattle.std.proofs.Common.{◌≡◌, ℕ, ◌+◌, ◌*◌, ◌<◌, ◌≤◌, ◌-◌, ◌&&◌, not, take, nat_le, Bool, true, false, List, [], ◌∷◌, ◌++◌, length, length-append, refl, ap, ◌∙◌, arith, IsTrue}
use Rattle.std.specs.List.{list_all}
use Rattle.std.proofs.lemmas.List.Sums.{sum_by-cons}
use Rattle.std.proofs.lemmas.List.Folds.{list_all-append}
use Rattle.std.proofs.Math.Seq.{take-append_seam}
use Rattle.std.proofs.lemmas.Bool.Decides.{nat_tests}
use Rattle.gs_chars.specs.Characters.{are_digits}
pub use Rattle.gs_chars.proofs.TruthsAndLists.{and_first as and_left, and_second as and_right, not_empty}
use Rattle.gs_ai.specs.declared.part.Part.{Part}
use Rattle.gs_ai.specs.declared.part.Part.TheVariants.{Zero, Num, NumCheck, NumUpTo, NumOpt, Set, SetOpt, Date, Other}
use Rattle.gs_ai.specs.declared.row.AiRow.{AiRow}
use Rattle.gs_ai.specs.Parts.{is_part, is_open, greatest_length}
use Rattle.gs_ai.specs.Values.{greatest_of}
use Rattle.gs_ai.specs.Tables.{is_row, is_code, are_parts}

pub row_code : (row : AiRow) → is_row row ≡ true → is_code row.code ≡ true
unfolding is_row
row_code row h = and_left _ _ (and_left _ _ (and_left _ _ (and_left _ _ (and_left _ _ h))))

pub row_parts : (row : AiRow) → is_row row ≡ true → are_parts row.parts ≡ true
unfolding is_row
row_parts row h = and_right _ _ (and_left _ _ (and_left _ _ (and_left _ _ (and_left _ _ h))))

pub few : (parts : List Part) → are_parts parts ≡ true → length parts ≤ 3
few parts h = let n : nat_le (length parts) 3 ≡ true = and_right _ _ (and_left _ _ (and_left _ _ h)) in grind (arith, nat_tests)

pub listed : (parts : List Part) → are_parts parts ≡ true → list_all is_part parts ≡ true
listed parts h = and_right _ _ (and_left _ _ h)

pub code_digits : (code : List ℕ) → is_code code ≡ true → IsTrue (are_digits code)
code_digits code h = and_left _ _ (and_left _ _ h)

pub code_long : (code : List ℕ) → is_code code ≡ true → 2 ≤ length code
code_long code h = let n : nat_le 2 (length code) ≡ true = and_right _ _ (and_left _ _ h) in grind (arith, nat_tests)

pub code_short : (code : List ℕ) → is_code code ≡ true → length code ≤ 4
code_short code h = let n : nat_le (length code) 4 ≡ true = and_right _ _ h in grind (arith, nat_tests)

small_part : (p : Part) → is_part p ≡ true → greatest_length p ≤ 90
small_part Zero h = omega arith
small_part (Num k) h = grind (arith, nat_tests)
small_part (NumCheck k) h = grind (arith, nat_tests)
small_part (NumUpTo k) h = grind (arith, nat_tests)
small_part (NumOpt k) h = grind (arith, nat_tests)
small_part (Set k) h = grind (arith, nat_tests)
small_part (SetOpt k) h = grind (arith, nat_tests)
small_part Date h = omega arith
small_part Other h = omega arith

pub small_parts : (parts : List Part) → list_all is_part parts ≡ true → greatest_of parts ≤ 90 * length parts
small_parts [] h = omega arith
small_parts (p ∷ ps) h =
    let one = small_part p (and_left _ _ h) in
    let others = small_parts ps (and_right _ _ h) in
    let sum : greatest_of (p ∷ ps) ≡ greatest_length p + greatest_of ps = sum_by-cons greatest_length p ps in
    omega arith

-- a part of the list that is not written with `..`
abbrev pub is_closed : Part → Bool
is_closed p = is_part p && not (is_open p)

all_closed : (parts : List Part) → list_all is_closed parts ≡ (list_all is_part parts && list_all (λ p. not (is_open p)) parts)
all_closed [] = refl
all_closed (p ∷ ps) = rw (all_closed ps) (by (is_part p) (not (is_open p)) (list_all is_part ps) (list_all (λ q. not (is_open q)) ps))
  where
    by : (a b c d : Bool) → ((a && b) && (c && d)) ≡ ((a && c) && (b && d))
    by true true c d = refl
    by true false true d = refl
    by true false false d = refl
    by false b c d = refl

last_part : (l a b : Bool) → (l && (a && b)) ≡ ((a && (l && true)) && b)
last_part true true b = refl
last_part true false b = refl
last_part false true b = refl
last_part false false b = refl

pub too_many : (parts : List Part) → 3 < length parts → false ≡ are_parts parts
too_many parts many = let most : nat_le (length parts) 3 ≡ false = grind (arith, nat_tests) in by (nat_le 1 (length parts)) _ _ _ most
  where
    by : (a b c d : Bool) → b ≡ false → false ≡ (((a && b) && c) && d)
    by true b c d e = rw e refl
    by false b c d e = refl

-- the others, and then the last, are parts of a row
pub judged : (parts others : List Part) (last : Part) (l r : Bool) → parts ≡ others ++ last ∷ [] → length parts ≤ 3 → l ≡ is_part last
    → r ≡ list_all is_closed others → (l && r) ≡ are_parts parts
judged parts others last l r whole few one all =
    let size : length parts ≡ length others + 1 = ap length whole ∙ length-append others (last ∷ []) in
    let least : nat_le 1 (length parts) ≡ true = grind (arith, nat_tests) in
    let most : nat_le (length parts) 3 ≡ true = grind (arith, nat_tests) in
    let short : length parts - 1 ≡ length others = omega arith in
    let front : take (length parts - 1) parts ≡ others = rw short (rw whole (take-append_seam others (last ∷ []))) in
    let listed : list_all is_part parts ≡ (list_all is_part others && (is_part last && true)) = rw whole (list_all-append is_part others (last ∷ [])) in
    rw (least, most, listed, front, all, one, all_closed others) (last_part (is_part last) (list_all is_part others) (list_all (λ p. not (is_open p)) others))
