-- Laying out the fields that were taken from a key's value.
use Rattle.std.proofs.Common.{◌≡◌, ℕ, zero, suc, ◌+◌, ◌-◌, ◌≤◌, nat_le, not, if◌then◌else◌, Bool, true, false, List, [], ◌∷◌, ◌++◌, length, take, drop, position, Option, Some, None, bytes_eq, is_some, is_none, refl, sym, ap, ◌∙◌, arith, append_assoc}
use Rattle.std.specs.List.{list_all}
use Rattle.std.specs.Option.{option_map, option_or}
use Rattle.std.proofs.lemmas.Bool.{leb-true, and_parts}
use Rattle.std.proofs.lemmas.Bool.Decides.{nat_tests}
use Rattle.std.proofs.lemmas.List.{append-nil, drop_at, length-drop, length-take, drop_all, take-append-drop, take_all, take_at}
use Rattle.std.proofs.lemmas.List.Sums.{sum_by-cons}
use Rattle.gs_chars.specs.Characters.{are_digits}
use Rattle.gs_chars.specs.CheckDigits.{check_digit_of}
use Rattle.gs_chars.proofs.TruthsAndLists.{equal_bytes}
use Rattle.gs_ai.specs.declared.part.Part.{Part}
use Rattle.gs_ai.specs.declared.part.Part.TheVariants.{Zero, Num, NumCheck, NumOpt, Set, SetOpt}
use Rattle.gs_ai.specs.declared.errors.ValueFault.TheVariants.{Length, Char, Check, Date}
use Rattle.gs_ai.specs.Parts.{greatest_length, is_of_part, is_part, least_length}
use Rattle.gs_ai.specs.Values.{greatest_of, has_length_of, is_checked, keeps_check, keeps_date, least_of, parts_error, pieces, wrong_character}
use Rattle.gs_ai.proofs.PartLemmas.{wrong-cons}
use Rattle.gs_tables_document.specs.declared.document.Kind.{Kind}
use Rattle.gs_tables.specs.declared.form.Behind.{Behind}
use Rattle.gs_tables.specs.declared.form.Behind.TheVariants.{Nothing, Further, Tail as BehindTail}
use Rattle.gs_tables.specs.declared.form.KeyForm.{KeyForm}
use Rattle.gs_tables.specs.declared.form.KeyForm.TheVariants.{Digits}
use Rattle.gs_tables.specs.declared.form.Room.TheVariants as room
use Rattle.gs_tables.specs.Forms.{further_of, key_form, tail_of}
use Rattle.gs_tables.specs.Rules.{is_lead}
use Rattle.gs_epc.specs.Layout.{behind_check, key_digits, key_value, tail_of_key, with_check}
use Rattle.gs_epc.specs.KeyParts.{fields_at, tail_in}
use Rattle.gs_chars.proofs.Searches.{cons_none}

-- ---- a value in order

pub record PartsKept (parts : List Part) (value : List ℕ) : Type 0 where
  pub long : least_of parts ≤ length value
  pub short : length value ≤ greatest_of parts
  pub characters : wrong_character parts value ≡ None
  pub checks : list_all keeps_check (pieces parts value) ≡ true

bounds : (parts : List Part) (value : List ℕ) → has_length_of parts value ≡ true → (least_of parts ≤ length value) × (length value ≤ greatest_of parts)
bounds parts value h =
    let both = and_parts (nat_le (least_of parts) (length value)) (nat_le (length value) (greatest_of parts)) h in
    (leb-true (least_of parts) (length value) both.0, leb-true (length value) (greatest_of parts) both.1)

pub parts_kept : (parts : List Part) (value : List ℕ) → parts_error parts value ≡ None → PartsKept parts value
parts_kept parts value e = by (has_length_of parts value) (wrong_character parts value) (list_all keeps_check (pieces parts value)) refl refl refl e
  where
    by : (l : Bool) (w : Option ℕ) (k : Bool) → has_length_of parts value ≡ l → wrong_character parts value ≡ w → list_all keeps_check (pieces parts value) ≡ k
        → (if not l then Some Length else option_or (option_map Char w) (if not k then Some Check else if not (list_all keeps_date (pieces parts value)) then Some Date else None)) ≡ None
        → PartsKept parts value
    by false w k f g c h = absurd (let x : Some Length ≡ None = h in cc)
    by true (Some i) k f g c h = absurd (let x : Some (Char i) ≡ None = h in cc)
    by true None false f g c h = absurd (let x : Some Check ≡ None = h in cc)
    by true None true f g c h = let b = bounds parts value f in record { long = b.0; short = b.1; characters = g; checks = c }

-- ---- digits

-- digits with a check digit, and the rest after them
checked_again : (k : ℕ) (value : List ℕ) → is_checked k (take k value) ≡ true → with_check (take (k - 1) value) ++ drop k value ≡ value
checked_again k value h =
    let piece = take k value in
    let last = equal_bytes (drop (k - 1) piece) (check_digit_of (take (k - 1) piece) ∷ []) (and_parts (are_digits piece) (bytes_eq (drop (k - 1) piece) (check_digit_of (take (k - 1) piece) ∷ [])) h).1 in
    let inner : take (k - 1) piece ≡ take (k - 1) value = shorter (k - 1) k value (omega arith) in
    let whole : with_check (take (k - 1) piece) ≡ piece = ap (λ (t : List ℕ). take (k - 1) piece ++ t) (sym last) ∙ take-append-drop (k - 1) piece in
    ap (λ (d : List ℕ). with_check d ++ drop k value) (sym inner) ∙ ap (λ (d : List ℕ). d ++ drop k value) whole ∙ take-append-drop k value
  where
    shorter : (m n : ℕ) (xs : List ℕ) → m ≤ n → take m (take n xs) ≡ take m xs
    shorter zero n xs low = refl
    shorter (suc m) zero xs low = absurd (omega arith)
    shorter (suc m) (suc n) [] low = refl
    shorter (suc m) (suc n) (x ∷ xs) low = ap (λ (t : List ℕ). x ∷ t) (shorter m n xs (omega arith))

-- the digits of a key by their prefix and rest
digits_again : (lead n : ℕ) (digits : List ℕ) → lead ≤ length digits
    → key_digits lead (take n (drop lead digits)) (take lead digits ++ drop n (drop lead digits)) ≡ digits
digits_again lead n digits within =
    let first = take lead digits in
    let others = drop lead digits in
    let long : length first ≡ lead = let l = length-take lead digits in omega arith in
    let front : take lead (first ++ drop n others) ≡ first = take_at first (drop n others) lead long in
    let back : drop lead (first ++ drop n others) ≡ drop n others = drop_at first (drop n others) lead long in
    rw (front, back) (append_assoc first (take n others) (drop n others) ∙ ap (λ (t : List ℕ). first ++ t) (take-append-drop n others) ∙ take-append-drop lead digits)

-- ---- the value of a key

-- a value of digits with their check digit, and a tail
checked_value : (k : ℕ) (parts : List Part) (lead n : ℕ) (value tail : List ℕ)
    → list_all keeps_check (pieces (NumCheck k ∷ parts) value) ≡ true → lead ≤ k - 1 → k ≤ length value → tail ≡ drop k value
    → with_check (key_digits lead (take n (drop lead (take (k - 1) value))) (take lead (take (k - 1) value) ++ drop n (drop lead (take (k - 1) value)))) ++ tail ≡ value
checked_value k parts lead n value tail checks low long is =
    let digits = take (k - 1) value in
    let count : lead ≤ length digits = let l = length-take (k - 1) value in omega arith in
    let again = digits_again lead n digits count in
    let checked = (and_parts (is_checked k (take k value)) (list_all keeps_check (pieces parts (drop k value))) checks).0 in
    rw (again, is) (checked_again k value checked)

-- the leading zero
record IsBehindZero (parts : List Part) (value : List ℕ) : Type 0 where
  others : List ℕ
  front : value ≡ 48 ∷ others
  long : least_of parts ≤ length others
  short : length others ≤ greatest_of parts
  checks : list_all keeps_check (pieces parts others) ≡ true

no_first : (a : Option ℕ) (b : Option ℕ) → option_or a b ≡ None → a ≡ None
no_first None b e = refl
no_first (Some i) b e = absurd (let f : Some i ≡ None = e in cc)

is_zero : (c : ℕ) → not (is_of_part Zero c) ≡ false → c ≡ 48
is_zero c h = grind (arith, nat_tests)

zero_first : (parts : List Part) (value : List ℕ) → PartsKept (Zero ∷ parts) value → IsBehindZero parts value
zero_first parts [] kept =
    let sum : least_of (Zero ∷ parts) ≡ least_length Zero + least_of parts = sum_by-cons least_length Zero parts in
    let long = kept.long in
    absurd (omega arith)
zero_first parts (c ∷ value) kept =
    let least : least_of (Zero ∷ parts) ≡ least_length Zero + least_of parts = sum_by-cons least_length Zero parts in
    let greatest : greatest_of (Zero ∷ parts) ≡ greatest_length Zero + greatest_of parts = sum_by-cons greatest_length Zero parts in
    let long = kept.long in
    let short = kept.short in
    let wrong : position (λ x. not (is_of_part Zero x)) (c ∷ []) ≡ None = no_first _ _ (sym (wrong-cons Zero parts (c ∷ value)) ∙ kept.characters) in
    let first : c ≡ 48 = is_zero c (cons_none (λ x. not (is_of_part Zero x)) c [] wrong).0 in
    record { others = value; front = ap (λ (d : ℕ). d ∷ value) first; long = omega arith; short = omega arith; checks = kept.checks }

-- the conditions for a key's tail
pub record IsTail (form : KeyForm) (tail behind : List ℕ) : Type 0 where
  pub some : is_some (tail_of form) ≡ true → tail ≡ behind
  pub none : is_none (tail_of form) ≡ true → tail ≡ []

lead_low : (k : ℕ) (tail : Behind) (form : KeyForm) (lead : ℕ) → Digits (k - 1) tail ≡ form → is_lead form lead ≡ true
    → is_part (NumCheck k) ≡ true → lead ≤ k - 1
lead_low k tail form lead same h part =
    let low : lead ≤ 1 = leb-true lead 1 (rw (← same) at h) in
    let two : 2 ≤ k = leb-true 2 k (and_parts (nat_le 2 k) (nat_le k 18) part).0 in
    omega arith

least_checked : (k : ℕ) (parts : List Part) (value : List ℕ) → least_of (NumCheck k ∷ parts) ≤ length value → k ≤ length value
least_checked k parts value long =
    let sum : least_of (NumCheck k ∷ parts) ≡ least_length (NumCheck k) + least_of parts = sum_by-cons least_length (NumCheck k) parts in
    omega arith

none_behind_check : (k : ℕ) (value : List ℕ) → length value ≤ greatest_of (NumCheck k ∷ []) → drop k value ≡ []
none_behind_check k value short =
    let sum : greatest_of (NumCheck k ∷ []) ≡ greatest_length (NumCheck k) + greatest_of [] = sum_by-cons greatest_length (NumCheck k) [] in
    drop_all k value (omega arith)

-- ---- the rest after the check digit

-- a kind without further fields has its tail there
no_further : (parts : List Part) (kind : Kind) (n : ℕ) (value serial : List ℕ) → kind.further ≡ []
    → behind_check kind (fields_at parts kind n value serial) ≡ tail_of_key kind.serial serial
no_further parts kind n value serial none = rw none refl

-- the piece and the total are all
split_again : (a b : ℕ) (others tail : List ℕ) → length others ≤ a + b → tail ≡ [] → take a others ++ (take b (drop a others) ++ tail) ≡ others
split_again a b others tail short none =
    let left : length (drop a others) ≤ b = let l = length-drop a others in omega arith in
    let whole : take b (drop a others) ≡ drop a others = take_all b (drop a others) left in
    rw (none, append-nil, whole) (take-append-drop a others)

both_further : (parts : List Part) (kind : Kind) (n a b : ℕ) (value serial : List ℕ) → kind.further ≡ a ∷ b ∷ []
    → tail_of_key kind.serial serial ≡ [] → length (tail_in parts value) ≤ a + b
    → behind_check kind (fields_at parts kind n value serial) ≡ tail_in parts value
both_further parts kind n a b value serial are none short = rw are (split_again a b (tail_in parts value) (tail_of_key kind.serial serial) short none)

two_behind_check : (k a b : ℕ) (value : List ℕ) → length value ≤ greatest_of (NumCheck k ∷ Num a ∷ Num b ∷ []) → length (drop k value) ≤ a + b
two_behind_check k a b value short =
    let one : greatest_of (NumCheck k ∷ Num a ∷ Num b ∷ []) ≡ greatest_length (NumCheck k) + greatest_of (Num a ∷ Num b ∷ []) = sum_by-cons greatest_length (NumCheck k) (Num a ∷ Num b ∷ []) in
    let two : greatest_of (Num a ∷ Num b ∷ []) ≡ greatest_length (Num a) + greatest_of (Num b ∷ []) = sum_by-cons greatest_length (Num a) (Num b ∷ []) in
    let three : greatest_of (Num b ∷ []) ≡ greatest_length (Num b) + greatest_of [] = sum_by-cons greatest_length (Num b) [] in
    let left = length-drop k value in
    omega arith

pub key_again : (parts : List Part) (form : KeyForm) (kind : Kind) (n : ℕ) (value serial : List ℕ) → key_form parts ≡ Some form
    → is_lead form kind.lead ≡ true → kind.further ≡ further_of form → list_all is_part parts ≡ true → PartsKept parts value
    → IsTail form (tail_of_key kind.serial serial) (tail_in parts value) → key_value parts kind (fields_at parts kind n value serial) ≡ value
key_again (Zero ∷ NumCheck k ∷ []) form kind n value serial formed lead further are kept tail =
    let same : Digits (k - 1) Nothing ≡ form = cc in
    let zero = zero_first (NumCheck k ∷ []) value kept in
    let low = lead_low k Nothing form kind.lead same lead (and_parts (is_part (NumCheck k)) true are).0 in
    let none : kind.further ≡ [] = rw (← same) at further in
    let no_tail : tail_of_key kind.serial serial ≡ [] = tail.none (rw (← same) refl) in
    let behind : tail_of_key kind.serial serial ≡ drop k zero.others = no_tail ∙ sym (none_behind_check k zero.others zero.short) in
    let others = behind_check kind (fields_at (Zero ∷ NumCheck k ∷ []) kind n (48 ∷ zero.others) serial) in
    let whole : others ≡ drop k zero.others = no_further (Zero ∷ NumCheck k ∷ []) kind n (48 ∷ zero.others) serial none ∙ behind in
    rw zero.front (ap (λ (t : List ℕ). 48 ∷ t) (checked_value k [] kind.lead n zero.others others zero.checks low (least_checked k [] zero.others zero.long) whole))
key_again (Zero ∷ NumCheck k ∷ SetOpt most ∷ []) form kind n value serial formed lead further are kept tail =
    let same : Digits (k - 1) (BehindTail (room.Characters most)) ≡ form = cc in
    let zero = zero_first (NumCheck k ∷ SetOpt most ∷ []) value kept in
    let low = lead_low k (BehindTail (room.Characters most)) form kind.lead same lead (and_parts (is_part (NumCheck k)) (list_all is_part (SetOpt most ∷ [])) are).0 in
    let none : kind.further ≡ [] = rw (← same) at further in
    let some = tail.some (rw (← same) refl) in
    let behind : tail_of_key kind.serial serial ≡ drop k zero.others = rw zero.front at some in
    let others = behind_check kind (fields_at (Zero ∷ NumCheck k ∷ SetOpt most ∷ []) kind n (48 ∷ zero.others) serial) in
    let whole : others ≡ drop k zero.others = no_further (Zero ∷ NumCheck k ∷ SetOpt most ∷ []) kind n (48 ∷ zero.others) serial none ∙ behind in
    rw zero.front (ap (λ (t : List ℕ). 48 ∷ t) (checked_value k (SetOpt most ∷ []) kind.lead n zero.others others zero.checks low (least_checked k (SetOpt most ∷ []) zero.others zero.long) whole))
key_again (Zero ∷ NumCheck k ∷ NumOpt most ∷ []) form kind n value serial formed lead further are kept tail =
    let same : Digits (k - 1) (BehindTail (room.Digits most)) ≡ form = cc in
    let zero = zero_first (NumCheck k ∷ NumOpt most ∷ []) value kept in
    let low = lead_low k (BehindTail (room.Digits most)) form kind.lead same lead (and_parts (is_part (NumCheck k)) (list_all is_part (NumOpt most ∷ [])) are).0 in
    let none : kind.further ≡ [] = rw (← same) at further in
    let some = tail.some (rw (← same) refl) in
    let behind : tail_of_key kind.serial serial ≡ drop k zero.others = rw zero.front at some in
    let others = behind_check kind (fields_at (Zero ∷ NumCheck k ∷ NumOpt most ∷ []) kind n (48 ∷ zero.others) serial) in
    let whole : others ≡ drop k zero.others = no_further (Zero ∷ NumCheck k ∷ NumOpt most ∷ []) kind n (48 ∷ zero.others) serial none ∙ behind in
    rw zero.front (ap (λ (t : List ℕ). 48 ∷ t) (checked_value k (NumOpt most ∷ []) kind.lead n zero.others others zero.checks low (least_checked k (NumOpt most ∷ []) zero.others zero.long) whole))
key_again (NumCheck k ∷ []) form kind n value serial formed lead further are kept tail =
    let same : Digits (k - 1) Nothing ≡ form = cc in
    let low = lead_low k Nothing form kind.lead same lead (and_parts (is_part (NumCheck k)) true are).0 in
    let none : kind.further ≡ [] = rw (← same) at further in
    let no_tail : tail_of_key kind.serial serial ≡ [] = tail.none (rw (← same) refl) in
    let behind : tail_of_key kind.serial serial ≡ drop k value = no_tail ∙ sym (none_behind_check k value kept.short) in
    checked_value k [] kind.lead n value (behind_check kind (fields_at (NumCheck k ∷ []) kind n value serial)) kept.checks low
    (least_checked k [] value kept.long) (no_further (NumCheck k ∷ []) kind n value serial none ∙ behind)
key_again (NumCheck k ∷ SetOpt most ∷ []) form kind n value serial formed lead further are kept tail =
    let same : Digits (k - 1) (BehindTail (room.Characters most)) ≡ form = cc in
    let low = lead_low k (BehindTail (room.Characters most)) form kind.lead same lead (and_parts (is_part (NumCheck k)) (list_all is_part (SetOpt most ∷ [])) are).0 in
    let none : kind.further ≡ [] = rw (← same) at further in
    let behind = tail.some (rw (← same) refl) in
    checked_value k (SetOpt most ∷ []) kind.lead n value (behind_check kind (fields_at (NumCheck k ∷ SetOpt most ∷ []) kind n value serial)) kept.checks low (least_checked k (SetOpt most ∷ []) value kept.long) (no_further (NumCheck k ∷ SetOpt most ∷ []) kind n value serial none ∙ behind)
key_again (NumCheck k ∷ NumOpt most ∷ []) form kind n value serial formed lead further are kept tail =
    let same : Digits (k - 1) (BehindTail (room.Digits most)) ≡ form = cc in
    let low = lead_low k (BehindTail (room.Digits most)) form kind.lead same lead (and_parts (is_part (NumCheck k)) (list_all is_part (NumOpt most ∷ [])) are).0 in
    let none : kind.further ≡ [] = rw (← same) at further in
    let behind = tail.some (rw (← same) refl) in
    checked_value k (NumOpt most ∷ []) kind.lead n value (behind_check kind (fields_at (NumCheck k ∷ NumOpt most ∷ []) kind n value serial)) kept.checks low (least_checked k (NumOpt most ∷ []) value kept.long) (no_further (NumCheck k ∷ NumOpt most ∷ []) kind n value serial none ∙ behind)
key_again (NumCheck k ∷ Num a ∷ Num b ∷ []) form kind n value serial formed lead further are kept tail =
    let same : Digits (k - 1) (Further a b) ≡ form = cc in
    let low = lead_low k (Further a b) form kind.lead same lead (and_parts (is_part (NumCheck k)) (list_all is_part (Num a ∷ Num b ∷ [])) are).0 in
    let both : kind.further ≡ a ∷ b ∷ [] = rw (← same) at further in
    let none : tail_of_key kind.serial serial ≡ [] = tail.none (rw (← same) refl) in
    let whole = both_further (NumCheck k ∷ Num a ∷ Num b ∷ []) kind n a b value serial both none (two_behind_check k a b value kept.short) in
    checked_value k (Num a ∷ Num b ∷ []) kind.lead n value (behind_check kind (fields_at (NumCheck k ∷ Num a ∷ Num b ∷ []) kind n value serial)) kept.checks low (least_checked k (Num a ∷ Num b ∷ []) value kept.long) whole
key_again (Set most ∷ []) form kind n value serial formed lead further are kept tail = take-append-drop n value
key_again parts form kind n value serial formed lead further are kept tail = absurd (let e : None ≡ Some form = formed in cc)
