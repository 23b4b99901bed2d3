-- The digits of the key of an identity of the table, and those that a class takes.
use Rattle.std.proofs.Common.{◌≡◌, ℕ, zero, suc, ◌+◌, ◌-◌, ◌≤◌, nat_le, true, List, [], ◌∷◌, ◌++◌, length, take, drop, None, refl, arith, length-append}
use Rattle.std.specs.List.{list_all}
use Rattle.std.specs.Prelude.{bytes_eq}
use Rattle.std.proofs.lemmas.Bool.Decides.{nat_tests}
use Rattle.std.proofs.lemmas.List.{length-drop, length-take, take_all}
use Rattle.std.proofs.lemmas.List.Elements.{All-head}
use Rattle.std.proofs.lemmas.List.Sums.{sum_by-cons}
use Rattle.gs_chars.specs.Characters.{are_digits, is_digit}
use Rattle.gs_chars.specs.CheckDigits.{check_digit_of}
use Rattle.gs_ai.specs.declared.part.Part.TheVariants.{NumCheck}
use Rattle.gs_ai.specs.declared.row.AiRow.{AiRow}
use Rattle.gs_ai.specs.Parts.{greatest_length, least_length}
use Rattle.gs_ai.specs.Values.{greatest_of, is_checked, keeps_check, least_of, parts_error, pieces, value_error}
use Rattle.gs_ident.specs.Elements.{Elements}
use Rattle.gs_ident.specs.Identities.{IsInOrder, IsMadeWith}
use Rattle.gs_grammar.specs.Items.{is_between}
use Rattle.gs_grammar.proofs.ItemTests.{between_is}
use Rattle.gs_grammar.specs.declared.item.Item.{Item}
use Rattle.gs_tables.specs.declared.form.Behind.TheVariants.{Nothing}
use Rattle.gs_tables.specs.declared.form.KeyForm.TheVariants.{Digits}
use Rattle.gs_tables.specs.Rules.{is_digits, is_gcp, is_one, keeps_gcp}
use Rattle.gs_epc.proofs.LaidAgain.{parts_kept}
use Rattle.gs_class.specs.declared.document.ClassRow.{ClassRow}
use Rattle.gs_class.proofs.KeptClasses.{KeptClass}
use Rattle.std.proofs.lemmas.Bool.{and_from, and_parts}

-- ---- digits

digits_taken : (n : ℕ) (xs : List ℕ) → are_digits xs ≡ true → are_digits (take n xs) ≡ true
digits_taken zero xs h = refl
digits_taken (suc n) [] h = refl
digits_taken (suc n) (x ∷ xs) h = let p = and_parts (is_digit x) (are_digits xs) h in and_from (is_digit x) (are_digits (take n xs)) p.0 (digits_taken n xs p.1)

digits_dropped : (n : ℕ) (xs : List ℕ) → are_digits xs ≡ true → are_digits (drop n xs) ≡ true
digits_dropped zero xs h = h
digits_dropped (suc n) [] h = refl
digits_dropped (suc n) (x ∷ xs) h = digits_dropped n xs (and_parts (is_digit x) (are_digits xs) h).1

digits_joined : (xs ys : List ℕ) → are_digits xs ≡ true → are_digits ys ≡ true → are_digits (xs ++ ys) ≡ true
digits_joined [] ys a b = b
digits_joined (x ∷ xs) ys a b = let p = and_parts (is_digit x) (are_digits xs) a in and_from (is_digit x) (are_digits (xs ++ ys)) p.0
    (digits_joined xs ys p.1 b)

-- ---- the value of a key

-- k digits
pub record IsKeyValue (k : ℕ) (value : List ℕ) : Type 0 where
  pub count : length value ≡ k
  pub digits : are_digits value ≡ true

key_value_is : (k : ℕ) (value : List ℕ) → parts_error (NumCheck k ∷ []) value ≡ None → IsKeyValue k value
key_value_is k value none =
    let kept = parts_kept (NumCheck k ∷ []) value none in
    let least : least_of (NumCheck k ∷ []) ≡ least_length (NumCheck k) + least_of [] = sum_by-cons least_length (NumCheck k) [] in
    let greatest : greatest_of (NumCheck k ∷ []) ≡ greatest_length (NumCheck k) + greatest_of [] = sum_by-cons greatest_length (NumCheck k) [] in
    let long = kept.long in
    let short = kept.short in
    let count : length value ≡ k = omega arith in
    let checked : is_checked k (take k value) ≡ true = (and_parts (is_checked k (take k value)) (list_all keeps_check (pieces [] (drop k value))) kept.checks).0 in
    let piece = (and_parts (are_digits (take k value)) (bytes_eq (drop (k - 1) (take k value)) (check_digit_of (take (k - 1) (take k value)) ∷ [])) checked).0 in
    let whole : take k value ≡ value = take_all k value (omega arith) in
    record { count = count; digits = rw whole at piece }

-- the value of the key of an identity, by the row of a class
pub key_of_identity : (ais : List AiRow) (row : ClassRow) (kept : KeptClass ais row) (identity : Elements) → IsMadeWith ais identity
    → row.key ≡ identity.key.code → IsKeyValue kept.k identity.key.value
key_of_identity ais row kept identity made same =
    let fits = (All-head (IsInOrder ais) identity.key _ made.in_order).fits in
    let key_fits : value_error ais row.key identity.key.value ≡ None = rw (← same) at fits in
    let by_row : parts_error kept.key.parts identity.key.value ≡ None = rw kept.found at key_fits in
    key_value_is kept.k identity.key.value (rw kept.parts at by_row)

-- ---- the company prefix and the rest

-- the facts that the rule of the company prefix gives about its length
pub record IsLength (digits lead n : ℕ) : Type 0 where
  pub some : 1 ≤ n
  pub room : n ≤ digits - lead

pub length_kept : (digits lead n : ℕ) (items : List Item) → keeps_gcp (Digits digits Nothing) lead n items ≡ true → IsLength digits lead n
unfolding keeps_gcp
length_kept digits lead n items h =
    let both = and_parts (is_gcp (Digits digits Nothing) lead n) (is_one (is_digits n) items) h in
    let parts = and_parts (is_between 1 12 n) (nat_le n (digits - lead)) both.0 in
    let low = (between_is 1 12 n parts.0).0 in
    let room = parts.1 in
    record { some = low; room = grind (arith, nat_tests) }

pub one_of_prefix : (digits lead n : ℕ) (items : List Item) → keeps_gcp (Digits digits Nothing) lead n items ≡ true → is_one (is_digits n) items ≡ true
unfolding keeps_gcp
one_of_prefix digits lead n items h = (and_parts (is_gcp (Digits digits Nothing) lead n) (is_one (is_digits n) items) h).1

-- that many digits
pub record AreDigits (n : ℕ) (text : List ℕ) : Type 0 where
  pub count : length text ≡ n
  pub digits : are_digits text ≡ true

module _ (k lead n : ℕ) (value : List ℕ) (is : IsKeyValue k value) (low : lead ≤ 1) (length_is : IsLength (k - 1) lead n) where
  abbrev front : List ℕ
  front = take (k - 1) value

  front_count : length front ≡ k - 1
  front_count =
      let l = length-take (k - 1) value in
      let count = is.count in
      omega arith

  front_digits : are_digits front ≡ true
  front_digits = digits_taken (k - 1) value is.digits

  pub prefix_digits : AreDigits n (take n (drop lead front))
  prefix_digits =
      let l = length-take n (drop lead front) in
      let d = length-drop lead front in
      let count = front_count in
      let room = length_is.room in
      record { count = omega arith; digits = digits_taken n (drop lead front) (digits_dropped lead front front_digits) }

  pub rest_digits : AreDigits (k - 1 - n) (take lead front ++ drop n (drop lead front))
  rest_digits =
      let whole = length-append (take lead front) (drop n (drop lead front)) in
      let l = length-take lead front in
      let d = length-drop lead front in
      let e = length-drop n (drop lead front) in
      let count = front_count in
      let room = length_is.room in
      let some = length_is.some in
      record { count = omega arith; digits = digits_joined (take lead front) (drop n (drop lead front)) (digits_taken lead front front_digits) (digits_dropped n (drop lead front) (digits_dropped lead front front_digits)) }
