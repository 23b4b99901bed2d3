-- A value that fits each of its parts has no error other than its length, and any other value has one.
use Rattle.std.proofs.Common.{◌≡◌, ℕ, ◌+◌, ◌-◌, ◌%◌, ◌≤◌, ◌&&◌, not, nat_le, Bool, true, false, if◌then◌else◌, List, [], ◌∷◌, length, take, drop, Some, None, bytes_eq, refl, sym, ap, ◌∙◌, inl, inr, arith}
use Rattle.std.specs.List.{list_all}
use Rattle.std.proofs.lemmas.Bool.Decides.{nat_tests}
use Rattle.std.proofs.lemmas.List.{take-append-drop, take_all}
use Rattle.std.proofs.lemmas.List.Folds.{list_all-append}
use Rattle.std.proofs.lemmas.List.Sums.{sum_by-cons}
use Rattle.gs_chars.proofs.TruthsAndLists.{and_first, and_second, equal_bytes, true_or_false}
use Rattle.gs_chars.specs.Characters.{are_digits, is_digit}
use Rattle.gs_chars.specs.CheckDigits.{check_digit_of, weighted_sum}
use Rattle.gs_ai.specs.declared.part.Part.{Part}
use Rattle.gs_ai.specs.Parts.{greatest_length, is_of_part, least_length}
use Rattle.gs_ai.specs.Values.{greatest_of, is_checked, keeps_check, keeps_date, least_of, parts_error, pieces, wrong_character}
use Rattle.gs_ai.specs.ValuesSupport.{each_fits, fits}
use Rattle.gs_ai.proofs.PartLemmas.{neither, not_mapped, wrong-cons, wrong_in}
use Rattle.gs_chars.proofs.Searches.{cons_none, position-cons}
use Rattle.std.proofs.lemmas.Bool.{and_from}

-- ---- a checked part

found_check : (b : Bool) (d check : ℕ) → (if b then Some d else None) ≡ Some check → (b ≡ true) × (check ≡ d)
found_check true d check e = (refl, let f : Some d ≡ Some check = e in cc)
found_check false d check e = absurd (let f : None ≡ Some check = e in cc)

check_is_digit : (sum : ℕ) → is_digit (48 + (10 - sum % 10) % 10) ≡ true
check_is_digit sum = grind (arith, nat_tests)

digits_cut : (n : ℕ) (digits : List ℕ) → are_digits digits ≡ (are_digits (take n digits) && are_digits (drop n digits))
digits_cut n digits = ap are_digits (sym (take-append-drop n digits)) ∙ list_all-append is_digit (take n digits) (drop n digits)

and_none : (a : Bool) → (a && false) ≡ false
and_none true = refl
and_none false = refl

-- the end of the digits is the check digit of those before it
pub checked : (k check : ℕ) (r : Bool) (digits last : List ℕ)
    → (if are_digits (take (k - 1) digits) then Some (check_digit_of (take (k - 1) digits)) else None) ≡ Some check
    → last ≡ drop (k - 1) digits → r ≡ bytes_eq last (check ∷ []) → r ≡ is_checked k digits
checked k check r digits last found back e =
    let f = found_check (are_digits (take (k - 1) digits)) (check_digit_of (take (k - 1) digits)) check found in
    let tail : r ≡ bytes_eq (drop (k - 1) digits) (check_digit_of (take (k - 1) digits) ∷ []) = rw (back, f.1) at e in
    by (bytes_eq (drop (k - 1) digits) (check_digit_of (take (k - 1) digits) ∷ [])) refl f.0 tail
  where
    by : (b : Bool) → bytes_eq (drop (k - 1) digits) (check_digit_of (take (k - 1) digits) ∷ []) ≡ b
        → are_digits (take (k - 1) digits) ≡ true → r ≡ bytes_eq (drop (k - 1) digits) (check_digit_of (take (k - 1) digits) ∷ [])
        → r ≡ is_checked k digits
    by true same front t =
        let end : drop (k - 1) digits ≡ check_digit_of (take (k - 1) digits) ∷ [] = equal_bytes _ _ same in
        let one : are_digits (check_digit_of (take (k - 1) digits) ∷ []) ≡ true = and_from _ true (check_is_digit (weighted_sum (take (k - 1) digits))) refl in
        let last_digit : are_digits (drop (k - 1) digits) ≡ true = rw end one in
        let all : are_digits digits ≡ true = digits_cut (k - 1) digits ∙ and_from _ _ front last_digit in
        rw all t
    by false other front t = t ∙ other ∙ sym (rw other (and_none (are_digits digits)))

-- ---- all parts

none_wrong : (p : Part) (piece : List ℕ) → list_all (is_of_part p) piece ≡ true → wrong_in p piece ≡ None
none_wrong p [] h = refl
none_wrong p (c ∷ cs) h =
    let first : is_of_part p c ≡ true = and_first _ _ h in
    let others = none_wrong p cs (and_second (is_of_part p c) (list_all (is_of_part p) cs) h) in
    rw (position-cons (λ d. not (is_of_part p d)) c cs, first, others)

all_of_part : (p : Part) (piece : List ℕ) → wrong_in p piece ≡ None → list_all (is_of_part p) piece ≡ true
all_of_part p [] e = refl
all_of_part p (c ∷ cs) e =
    let h = cons_none (λ d. not (is_of_part p d)) c cs e in
    and_from (is_of_part p c) _ (by (is_of_part p c) h.0) (all_of_part p cs h.1)
  where
    by : (b : Bool) → not b ≡ false → b ≡ true
    by true g = refl
    by false g = absurd (let f : true ≡ false = g in cc)

-- no character is wrong, and each part keeps its check digit and its date
pub record IsKept (parts : List Part) (value : List ℕ) : Type 0 where
  pub characters : wrong_character parts value ≡ None
  pub checks : list_all keeps_check (pieces parts value) ≡ true
  pub dates : list_all keeps_date (pieces parts value) ≡ true

pub kept : (parts : List Part) (value : List ℕ) → each_fits parts value ≡ true → IsKept parts value
kept [] value h = record { characters = refl; checks = refl; dates = refl }
kept (p ∷ ps) value h =
    let piece = take (greatest_length p) value in
    let rest = drop (greatest_length p) value in
    let own = and_first (fits p piece) (each_fits ps rest) h in
    let others = kept ps rest (and_second (fits p piece) (each_fits ps rest) h) in
    let marks = and_second (list_all (is_of_part p) piece) (keeps_check (p, piece) && keeps_date (p, piece)) own in
    let here = none_wrong p piece (and_first (list_all (is_of_part p) piece) (keeps_check (p, piece) && keeps_date (p, piece)) own) in
    record {
      characters = rw (wrong-cons p ps value, here, others.characters);
      checks = and_from (keeps_check (p, piece)) _ (and_first _ (keeps_date (p, piece)) marks) others.checks;
      dates = and_from (keeps_date (p, piece)) _ (and_second (keeps_check (p, piece)) _ marks) others.dates;
    }

fitting : (parts : List Part) (value : List ℕ) → wrong_character parts value ≡ None → list_all keeps_check (pieces parts value) ≡ true
    → list_all keeps_date (pieces parts value) ≡ true → each_fits parts value ≡ true
fitting [] value e f g = refl
fitting (p ∷ ps) value e f g =
    let piece = take (greatest_length p) value in
    let rest = drop (greatest_length p) value in
    let both = neither _ _ (sym (wrong-cons p ps value) ∙ e) in
    let own = and_from (keeps_check (p, piece)) (keeps_date (p, piece)) (and_first _ _ f) (and_first _ _ g) in
    and_from (fits p piece) (each_fits ps rest) (and_from _ _ (all_of_part p piece both.0) own)
    (fitting ps rest (not_mapped _ _ both.1) (and_second (keeps_check (p, piece)) _ f) (and_second (keeps_date (p, piece)) _ g))

-- a value that does not fit, but has the right characters and check digits, has a wrong date
pub date_wrong : (parts : List Part) (value : List ℕ) → each_fits parts value ≡ false → wrong_character parts value ≡ None
    → list_all keeps_check (pieces parts value) ≡ true → list_all keeps_date (pieces parts value) ≡ false
date_wrong parts value h e f = elim (true_or_false (list_all keeps_date (pieces parts value))) [
  | inl t ↦ absurd (let g = fitting parts value e f t in let bad : true ≡ false = sym g ∙ h in cc)
  | inr t ↦ t
]

-- ---- one part

-- a value of a length that the only part allows, which fits it, has no error
pub only_fits : (parts : List Part) (p : Part) (others : List Part) (value : List ℕ) → parts ≡ p ∷ others → length others ≡ 0
    → least_length p ≤ length value → length value ≤ greatest_length p → fits p value ≡ true → parts_error parts value ≡ None
only_fits parts p (q ∷ others) value e none low high fit = absurd (omega arith)
only_fits parts p [] value e none low high fit =
    let whole : take (greatest_length p) value ≡ value = take_all (greatest_length p) value high in
    let each : each_fits (p ∷ []) value ≡ true = rw (whole, fit) refl in
    let all = kept (p ∷ []) value each in
    let least : least_of (p ∷ []) ≡ least_length p = sum_by-cons least_length p [] ∙ plus_none (least_length p) in
    let greatest : greatest_of (p ∷ []) ≡ greatest_length p = sum_by-cons greatest_length p [] ∙ plus_none (greatest_length p) in
    let above : nat_le (least_of (p ∷ [])) (length value) ≡ true = rw least (is_at_most (least_length p) (length value) low) in
    let below : nat_le (length value) (greatest_of (p ∷ [])) ≡ true = rw greatest (is_at_most (length value) (greatest_length p) high) in
    rw e (rw (above, below, all.characters, all.checks, all.dates) refl)
  where
    plus_none : (n : ℕ) → n + 0 ≡ n
    plus_none n = omega arith

    is_at_most : (m n : ℕ) → m ≤ n → nat_le m n ≡ true
    is_at_most m n h = grind (arith, nat_tests)
