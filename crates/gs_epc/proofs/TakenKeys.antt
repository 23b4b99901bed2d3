-- Taking apart the value of a key that was laid out.
use Rattle.std.proofs.Common.{◌≡◌, ℕ, ◌-◌, ◌≤◌, ◌&&◌, not, true, false, List, [], ◌∷◌, ◌++◌, length, take, drop, Option, Some, None, bytes_eq, find, is_some, refl, sym, ap, subst, ◌∙◌, inl, inr, arith, length-append, append_assoc}
use Rattle.std.specs.Option.{option_map_or}
use Rattle.std.proofs.lemmas.List.{drop_at, length-take, take-append-drop, take_at}
use Rattle.gs_ai.specs.declared.pair.Pair.{Pair}
use Rattle.gs_ai.specs.declared.part.Part.{Part}
use Rattle.gs_ai.specs.declared.part.Part.TheVariants.{Zero, Num, NumCheck, NumOpt, Set, SetOpt}
use Rattle.gs_ai.specs.declared.row.AiRow.{AiRow}
use Rattle.gs_ai.specs.Tables.{is_empty}
use Rattle.gs_ai.specs.Values.{has_code}
use Rattle.gs_chars.proofs.TruthsAndLists.{true_or_false, equal_bytes, same_bytes}
use Rattle.gs_chars.specs.CheckDigits.{check_digit_of}
use Rattle.gs_tables_document.specs.declared.document.Kind.{Kind}
use Rattle.gs_tables_document.specs.declared.document.SerialAt.{SerialAt}
use Rattle.gs_tables_document.specs.declared.document.SerialAt.TheVariants.{Nowhere, Tail, Ai}
use Rattle.gs_ident.specs.Identities.{stands_for_none}
use Rattle.gs_tables.specs.declared.form.Behind.{Behind}
use Rattle.gs_tables.specs.declared.form.Behind.TheVariants.{Nothing, Further, Tail as BehindTail}
use Rattle.gs_tables.specs.declared.form.KeyForm.{KeyForm}
use Rattle.gs_tables.specs.declared.form.KeyForm.TheVariants.{Digits, Characters}
use Rattle.gs_tables.specs.declared.form.Room.{Room}
use Rattle.gs_tables.specs.declared.form.Room.TheVariants as room
use Rattle.gs_tables.specs.Forms.{further_of, key_form, serial_room, tail_of}
use Rattle.gs_tables.specs.Rules.{is_serial_of}
use Rattle.gs_epc.specs.KeptFields.{FitForm, FitKind, FitsFurther, FitsRoom}
use Rattle.gs_epc.specs.Layout.{behind_check, key_digits, key_value, lay, parts_at, serial_elements, tail_of_key, with_check, KeyFields}
use Rattle.gs_epc.specs.KeyParts.{prefix_in, rest_in, serial_in, tail_in, take_apart, unless_empty}
use Rattle.gs_epc.proofs.LayoutValues.{have_digits}
use Rattle.std.proofs.lemmas.Bool.{and_parts}
use Rattle.std.specs.Prelude.{slice_index}

-- ---- prefix and rest from the digits of a key

-- prefix and rest are those that were laid out
pub record AreBack (prefix rest prefix' rest' : List ℕ) : Type 0 where
  pub prefix_back : prefix' ≡ prefix
  pub rest_back : rest' ≡ rest

from_digits : (lead n : ℕ) (prefix rest digits : List ℕ) → digits ≡ key_digits lead prefix rest → lead ≤ length rest → length prefix ≡ n
    → AreBack prefix rest (take n (drop lead digits)) (take lead digits ++ drop n (drop lead digits))
from_digits lead n prefix rest digits are within count =
    let first = take lead rest in
    let others = drop lead rest in
    let long : length first ≡ lead = let l = length-take lead rest in omega arith in
    let grouped : digits ≡ first ++ (prefix ++ others) = are ∙ append_assoc first prefix others in
    let front : take lead digits ≡ first = ap (take lead) grouped ∙ take_at first (prefix ++ others) lead long in
    let behind : drop lead digits ≡ prefix ++ others = ap (drop lead) grouped ∙ drop_at first (prefix ++ others) lead long in
    let left : drop n (prefix ++ others) ≡ others = drop_at prefix others n count in
    let whole : first ++ others ≡ rest = take-append-drop lead rest in
    record {
      prefix_back = ap (take n) behind ∙ take_at prefix others n count;
      rest_back = rw (front, behind, left) whole;
    }

-- the digits before their check digit, and the rest after it
checked_front : (k : ℕ) (digits tail : List ℕ) → length digits ≡ k - 1 → take (k - 1) (with_check digits ++ tail) ≡ digits
checked_front k digits tail long =
    let check = check_digit_of digits ∷ [] in
    ap (take (k - 1)) (append_assoc digits check tail) ∙ take_at digits (check ++ tail) (k - 1) long

checked_behind : (k : ℕ) (digits tail : List ℕ) → 1 ≤ k → length digits ≡ k - 1 → drop k (with_check digits ++ tail) ≡ tail
checked_behind k digits tail one long =
    let check = check_digit_of digits ∷ [] in
    drop_at (digits ++ check) tail k (length-append digits check ∙ omega arith)

-- ---- the value of a key

-- prefix, reference, piece and total are restored, and so is the tail if the key has one
pub record IsTakenBack (parts : List Part) (form : KeyForm) (kind : Kind) (n : ℕ) (fields : KeyFields) : Type 0 where
  pub back : AreBack fields.prefix fields.rest (prefix_in parts kind.lead n (key_value parts kind fields)) (rest_in parts kind.lead n (key_value parts kind fields))
  pub piece_back : take (slice_index kind.further 0) (tail_in parts (key_value parts kind fields)) ≡ fields.piece
  pub total_back : take (slice_index kind.further 1) (drop (slice_index kind.further 0) (tail_in parts (key_value parts kind fields))) ≡ fields.total
  pub tail : is_some (tail_of form) ≡ true → tail_in parts (key_value parts kind fields) ≡ tail_of_key kind.serial fields.serial

-- the digits of a key with k of them, its check digit among them
record FitDigits (k lead : ℕ) (prefix rest : List ℕ) : Type 0 where
  count : length (key_digits lead prefix rest) ≡ k - 1
  some : 1 ≤ k
  within : lead ≤ length rest

fit_digits : (k : ℕ) (tail : Behind) (form : KeyForm) (lead : ℕ) (prefix rest : List ℕ) → Digits (k - 1) tail ≡ form → 1 ≤ length prefix
    → FitForm form lead prefix rest → FitDigits k lead prefix rest
fit_digits k tail form lead prefix rest same some fits =
    let are = have_digits (k - 1) tail lead prefix rest some (subst (λ f. FitForm f lead prefix rest) (sym same) fits) in
    let one = are.some_digit in
    record { count = are.together; some = omega arith; within = are.lead_within }

-- the fields that parts with a check digit give for digits that fit, with or without a leading zero
module _ (k : ℕ) (lead n : ℕ) (prefix rest tail : List ℕ) (fit : FitDigits k lead prefix rest) (count : length prefix ≡ n) where
  abbrev front : List ℕ
  front = take (k - 1) (with_check (key_digits lead prefix rest) ++ tail)

  digits_back : AreBack prefix rest (take n (drop lead front)) (take lead front ++ drop n (drop lead front))
  digits_back = from_digits lead n prefix rest front (checked_front k (key_digits lead prefix rest) tail fit.count) fit.within count

  tail_back : drop k (with_check (key_digits lead prefix rest) ++ tail) ≡ tail
  tail_back = checked_behind k (key_digits lead prefix rest) tail fit.some fit.count

-- ---- the piece and the total

-- a key with a tail has no further fields
alone : (form : KeyForm) → is_some (tail_of form) ≡ true → further_of form ≡ []
alone (Digits digits Nothing) some = refl
alone (Digits digits (BehindTail room)) some = refl
alone (Digits digits (Further a b)) some = absurd (let e : false ≡ true = some in cc)
alone (Characters most) some = refl

-- piece and total are those that were laid out
record ArePiecesBack (further piece total others : List ℕ) : Type 0 where
  piece_back : take (slice_index further 0) others ≡ piece
  total_back : take (slice_index further 1) (drop (slice_index further 0) others) ≡ total

pieces_back : (further piece total tail others : List ℕ) → FitsFurther further piece total → others ≡ piece ++ (total ++ tail)
    → ArePiecesBack further piece total others
pieces_back [] piece total tail others fits is = record { piece_back = sym fits.0; total_back = sym fits.1 }
pieces_back (a ∷ []) piece total tail others fits is = absurd fits
pieces_back (a ∷ b ∷ []) piece total tail others fits is =
    let behind : drop a others ≡ total ++ tail = ap (drop a) is ∙ drop_at piece (total ++ tail) a fits.0.0 in
    record {
      piece_back = ap (take a) is ∙ take_at piece (total ++ tail) a fits.0.0;
      total_back = ap (take b) behind ∙ take_at total tail b fits.1.0;
    }
pieces_back (a ∷ b ∷ c ∷ further) piece total tail others fits is = absurd fits

-- the rest after the check digit is the tail, if there is one
only_tail : (form : KeyForm) (kind : Kind) (fields : KeyFields) → kind.further ≡ further_of form
    → FitsFurther kind.further fields.piece fields.total → is_some (tail_of form) ≡ true
    → behind_check kind fields ≡ tail_of_key kind.serial fields.serial
only_tail form kind fields of fits some =
    let none = subst (λ (lengths : List ℕ). FitsFurther lengths fields.piece fields.total) (of ∙ alone form some) fits in
    rw (none.0, none.1) refl

taken_of : (parts : List Part) (form : KeyForm) (kind : Kind) (n : ℕ) (fields : KeyFields)
    → AreBack fields.prefix fields.rest (prefix_in parts kind.lead n (key_value parts kind fields)) (rest_in parts kind.lead n (key_value parts kind fields))
    → tail_in parts (key_value parts kind fields) ≡ behind_check kind fields → kind.further ≡ further_of form
    → FitsFurther kind.further fields.piece fields.total → IsTakenBack parts form kind n fields
taken_of parts form kind n fields back behind of further =
    let pieces = pieces_back kind.further fields.piece fields.total (tail_of_key kind.serial fields.serial) (tail_in parts (key_value parts kind fields)) further behind in
    record { back = back; piece_back = pieces.piece_back; total_back = pieces.total_back; tail = λ some. behind ∙ only_tail form kind fields of further some }

key_back : (parts : List Part) (form : KeyForm) (kind : Kind) (n : ℕ) (fields : KeyFields) → key_form parts ≡ Some form
    → 1 ≤ length fields.prefix → length fields.prefix ≡ n → FitForm form kind.lead fields.prefix fields.rest
    → kind.further ≡ further_of form → FitsFurther kind.further fields.piece fields.total → IsTakenBack parts form kind n fields
key_back (Zero ∷ NumCheck k ∷ []) form kind n fields formed some count fits of further =
    let fit = fit_digits k Nothing form kind.lead fields.prefix fields.rest (let same : Digits (k - 1) Nothing ≡ form = cc in same) some fits in
    taken_of (Zero ∷ NumCheck k ∷ []) form kind n fields (digits_back k kind.lead n fields.prefix fields.rest (behind_check kind fields) fit count) (tail_back k kind.lead n fields.prefix fields.rest (behind_check kind fields) fit count) of further
key_back (Zero ∷ NumCheck k ∷ SetOpt most ∷ []) form kind n fields formed some count fits of further =
    let fit = fit_digits k (BehindTail (room.Characters most)) form kind.lead fields.prefix fields.rest (let same : Digits (k - 1) (BehindTail (room.Characters most)) ≡ form = cc in same) some fits in
    taken_of (Zero ∷ NumCheck k ∷ SetOpt most ∷ []) form kind n fields
    (digits_back k kind.lead n fields.prefix fields.rest (behind_check kind fields) fit count)
    (tail_back k kind.lead n fields.prefix fields.rest (behind_check kind fields) fit count) of further
key_back (Zero ∷ NumCheck k ∷ NumOpt most ∷ []) form kind n fields formed some count fits of further =
    let fit = fit_digits k (BehindTail (room.Digits most)) form kind.lead fields.prefix fields.rest (let same : Digits (k - 1) (BehindTail (room.Digits most)) ≡ form = cc in same) some fits in
    taken_of (Zero ∷ NumCheck k ∷ NumOpt most ∷ []) form kind n fields
    (digits_back k kind.lead n fields.prefix fields.rest (behind_check kind fields) fit count)
    (tail_back k kind.lead n fields.prefix fields.rest (behind_check kind fields) fit count) of further
key_back (NumCheck k ∷ []) form kind n fields formed some count fits of further =
    let fit = fit_digits k Nothing form kind.lead fields.prefix fields.rest (let same : Digits (k - 1) Nothing ≡ form = cc in same) some fits in
    taken_of (NumCheck k ∷ []) form kind n fields (digits_back k kind.lead n fields.prefix fields.rest (behind_check kind fields) fit count)
    (tail_back k kind.lead n fields.prefix fields.rest (behind_check kind fields) fit count) of further
key_back (NumCheck k ∷ SetOpt most ∷ []) form kind n fields formed some count fits of further =
    let fit = fit_digits k (BehindTail (room.Characters most)) form kind.lead fields.prefix fields.rest (let same : Digits (k - 1) (BehindTail (room.Characters most)) ≡ form = cc in same) some fits in
    taken_of (NumCheck k ∷ SetOpt most ∷ []) form kind n fields (digits_back k kind.lead n fields.prefix fields.rest (behind_check kind fields) fit count) (tail_back k kind.lead n fields.prefix fields.rest (behind_check kind fields) fit count) of further
key_back (NumCheck k ∷ NumOpt most ∷ []) form kind n fields formed some count fits of further =
    let fit = fit_digits k (BehindTail (room.Digits most)) form kind.lead fields.prefix fields.rest (let same : Digits (k - 1) (BehindTail (room.Digits most)) ≡ form = cc in same) some fits in
    taken_of (NumCheck k ∷ NumOpt most ∷ []) form kind n fields (digits_back k kind.lead n fields.prefix fields.rest (behind_check kind fields) fit count) (tail_back k kind.lead n fields.prefix fields.rest (behind_check kind fields) fit count) of further
key_back (NumCheck k ∷ Num a ∷ Num b ∷ []) form kind n fields formed some count fits of further =
    let fit = fit_digits k (Further a b) form kind.lead fields.prefix fields.rest (let same : Digits (k - 1) (Further a b) ≡ form = cc in same) some fits in
    taken_of (NumCheck k ∷ Num a ∷ Num b ∷ []) form kind n fields
    (digits_back k kind.lead n fields.prefix fields.rest (behind_check kind fields) fit count)
    (tail_back k kind.lead n fields.prefix fields.rest (behind_check kind fields) fit count) of further
key_back (Set most ∷ []) form kind n fields formed some count fits of further =
    let same : form ≡ Characters most = cc in
    let none = subst (λ (lengths : List ℕ). FitsFurther lengths fields.piece fields.total) (of ∙ ap further_of same) further in
    let lengths : kind.further ≡ [] = of ∙ ap further_of same in
    record {
      back = record { prefix_back = take_at fields.prefix fields.rest n count; rest_back = drop_at fields.prefix fields.rest n count };
      piece_back = rw lengths (sym none.0);
      total_back = rw lengths (sym none.1);
      tail = λ h. absurd (let e : false ≡ true = rw same at h in cc);
    }
key_back parts form kind n fields formed some count fits of further = absurd (let e : None ≡ Some form = formed in cc)

-- ---- the serial

some_text : (text : List ℕ) → 1 ≤ length text → unless_empty text ≡ Some text
some_text [] one = absurd (omega arith)
some_text (c ∷ text) one = refl

some_room : (room : Option Room) (serial : List ℕ) → is_some room ≡ true → FitsRoom room serial → unless_empty serial ≡ Some serial
some_room None serial some fits = absurd (let e : false ≡ true = some in cc)
some_room (Some (room.Characters most)) serial some fits = some_text serial fits.least
some_room (Some (room.Digits most)) serial some fits = some_text serial fits.least

-- the text for none is the serial, if the serial means none
none_is : (row : Option AiRow) (serial : List ℕ)
    → option_map_or (λ (r : AiRow). not (is_empty r.none) && bytes_eq r.none serial) row false ≡ true
    → unless_empty (option_map_or (λ (r : AiRow). r.none) row []) ≡ Some serial
none_is None serial h = absurd (let e : false ≡ true = h in cc)
none_is (Some row) serial h =
    let parts = and_parts (not (is_empty row.none)) (bytes_eq row.none serial) h in
    filled row.none parts.0 ∙ ap (λ (t : List ℕ). Some t) (equal_bytes row.none serial parts.1)
  where
    filled : (text : List ℕ) → not (is_empty text) ≡ true → unless_empty text ≡ Some text
    filled [] e = absurd (let f : false ≡ true = e in cc)
    filled (c ∷ text) e = refl

serial_back : (ais : List AiRow) (row : AiRow) (parts : List Part) (form : KeyForm) (at : SerialAt) (key : Pair) (serial : List ℕ)
    → is_serial_of ais row form at ≡ true → FitsRoom (serial_room ais form at) serial
    → (is_some (tail_of form) ≡ true → tail_in parts key.value ≡ tail_of_key at serial)
    → serial_in ais parts at (record { key = key; qualifiers = serial_elements ais at serial; attributes = [] }) ≡ Some serial
serial_back ais row parts form Nowhere key serial rule room tail = let none : serial ≡ [] = room in rw none refl
serial_back ais row parts form Tail key serial rule room tail = rw (tail rule) (some_room (tail_of form) serial rule room)
serial_back ais row parts form (Ai code) key serial rule room tail = elim (true_or_false (stands_for_none ais (record { code = code; value = serial }))) [
  | inl none ↦ rw none (none_is (find (has_code code) ais) serial none)
  | inr some ↦ rw (some, same_bytes code) refl
]

-- ---- the fields

pub taken_back : (ais : List AiRow) (kind : Kind) (n : ℕ) (fields : KeyFields) → FitKind ais kind fields → length fields.prefix ≡ n
    → take_apart ais kind (lay ais kind fields) n ≡ Some fields
taken_back ais kind n fields fit count =
    let of_kind = fit.of_kind in
    let row = of_kind.row in
    let parts : parts_at ais kind.key ≡ row.parts = rw of_kind.found refl in
    let back = key_back row.parts of_kind.form kind n fields of_kind.formed fit.prefix_least count fit.fits of_kind.further fit.further in
    let its = serial_back ais row row.parts of_kind.form kind.serial (record { code = kind.key; value = key_value row.parts kind fields }) fields.serial of_kind.serial fit.room back.tail in
    rw (parts, its, back.back.prefix_back, back.back.rest_back, back.piece_back, back.total_back) refl
