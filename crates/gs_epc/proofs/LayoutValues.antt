-- The values of the key and of the serial that an EPC lays out.
use Rattle.std.proofs.Common.{◌≡◌, ℕ, ◌+◌, ◌-◌, ◌≤◌, ◌&&◌, Bool, true, false, leb, List, [], ◌∷◌, ◌++◌, All, length, take, drop, Option, Some, None, bytes_eq, is_none, is_some, find, refl, sym, ap, subst, ◌∙◌, arith, length-append}
use Rattle.std.specs.List.{list_all, list_any}
use Rattle.std.specs.Option.{option_and_then, option_map, option_map_or}
use Rattle.std.proofs.lemmas.Bool.{leb-true, and_from}
use Rattle.std.proofs.lemmas.List.{append-nil, take-append-drop}
use Rattle.std.proofs.lemmas.List.Elements.{All-cons, All-nil}
use Rattle.std.proofs.lemmas.List.Folds.{list_all-append}
use Rattle.gs_chars.specs.Characters.{is_digit, is_in_set82}
use Rattle.gs_chars.specs.CheckDigits.{check_digit_of}
use Rattle.gs_ai.specs.declared.part.Part.{Part}
use Rattle.gs_ai.specs.declared.part.Part.TheVariants.{Zero, Num, NumCheck, NumOpt, Set, SetOpt}
use Rattle.gs_ai.specs.declared.errors.ValueFault.TheVariants.{Unknown}
use Rattle.gs_ai.specs.declared.row.AiRow.{AiRow}
use Rattle.gs_ai.specs.Parts.{is_part}
use Rattle.gs_ai.specs.Tables.{is_row}
use Rattle.gs_ai.specs.Values.{has_code, parts_error, value_error}
use Rattle.gs_ai.proofs.RowLemmas.{and_left, and_right, listed, row_parts}
use Rattle.gs_ident.specs.Identities.{IsInOrder}
use Rattle.gs_tables.specs.declared.form.Behind.{Behind}
use Rattle.gs_tables.specs.declared.form.Behind.TheVariants.{Nothing, Further, Tail as BehindTail}
use Rattle.gs_tables.specs.declared.form.KeyForm.{KeyForm}
use Rattle.gs_tables.specs.declared.form.KeyForm.TheVariants.{Digits, Characters}
use Rattle.gs_tables.specs.declared.form.Room.{Room}
use Rattle.gs_tables.specs.declared.form.Room.TheVariants as in_room
use Rattle.gs_tables_document.specs.declared.document.Kind.{Kind}
use Rattle.gs_tables_document.specs.declared.document.SerialAt.{SerialAt}
use Rattle.gs_tables_document.specs.declared.document.SerialAt.TheVariants.{Nowhere, Tail, Ai}
use Rattle.gs_tables.specs.Forms.{characters_of, digits_form, further_of, key_form, serial_room, tail_of}
use Rattle.gs_tables.specs.Rules.{is_characters, is_serial_of}
use Rattle.gs_epc.specs.KeptFields.{AreCharacters, FitForm, FitKind, FitsFurther, FitsRoom}
use Rattle.gs_epc.specs.Layout.{AreKeyDigits, behind_check, key_digits, key_pair, key_value, parts_at, tail_of_key, with_check, KeyFields}
use Rattle.gs_epc.specs.LayoutSupport.{serial_pairs}
use Rattle.gs_epc.proofs.LayoutParts.{KeepsParts, at_end, both_pass, checked_piece, digits_piece, in_front, no_error, nothing, number_piece, optional_piece, set_piece, zero_piece}
use Rattle.gs_chars.proofs.SpelledSets.{digit_in_set82 as digit_in_set}

-- ---- digits as characters

digits_in_set : (text : List ℕ) → list_all is_digit text ≡ true → list_all is_in_set82 text ≡ true
digits_in_set [] all = refl
digits_in_set (c ∷ text) all =
    and_from _ _ (digit_in_set c (and_left (is_digit c) (list_all is_digit text) all))
    (digits_in_set text (and_right (is_digit c) (list_all is_digit text) all))

-- ---- the digits of a key

-- that many digits, and at least one
pub record HaveDigits (count lead : ℕ) (prefix rest : List ℕ) : Type 0 where
  pub together : length (key_digits lead prefix rest) ≡ count
  pub digits : list_all is_digit (key_digits lead prefix rest) ≡ true
  pub lead_within : lead ≤ length rest
  pub some_digit : 1 ≤ count

pub have_digits : (count : ℕ) (tail : Behind) (lead : ℕ) (prefix rest : List ℕ) → 1 ≤ length prefix
    → FitForm (Digits count tail) lead prefix rest → HaveDigits count lead prefix rest
have_digits count tail lead prefix rest some fits =
    let least = fits.0 in
    let left = fits.1 in
    let first = take lead rest in
    let others = drop lead rest in
    let halves : first ++ others ≡ rest = take-append-drop lead rest in
    let whole : length first + length others ≡ length rest = sym (length-append first others) ∙ ap length halves in
    let all : list_all is_digit (first ++ others) ≡ true = rw halves fits.3 in
    let both : (list_all is_digit first && list_all is_digit others) ≡ true = sym (list_all-append is_digit first others) ∙ all in
    let inner : length (first ++ prefix ++ others) ≡ length first + length prefix + length others = simp length-append in
    record {
      together = omega (arith, inner, whole, least, left, some);
      digits = both_pass is_digit (first ++ prefix) others (both_pass is_digit first prefix (and_left _ _ both) fits.2) (and_right _ _ both);
      lead_within = omega (arith, least, left, some);
      some_digit = omega (arith, least, some);
    }

-- ---- the value of a key

-- a value of digits with their check digit and a tail
checked_value : (k : ℕ) (parts : List Part) (digits tail : List ℕ) → 2 ≤ k → length digits ≡ k - 1 → list_all is_digit digits ≡ true
    → KeepsParts parts tail → KeepsParts (NumCheck k ∷ parts) (with_check digits ++ tail)
checked_value k parts digits tail two long all kept =
    in_front (NumCheck k) parts (with_check digits) tail (length-append digits (check_digit_of digits ∷ []) ∙ omega (arith, long, two))
    (checked_piece k digits two long all) kept

-- the value of digits that fit, with their check digit and the rest after it
digits_value : (k : ℕ) (parts : List Part) (behind : Behind) (form : KeyForm) (lead : ℕ) (prefix rest others : List ℕ)
    → Digits (k - 1) behind ≡ form → list_all is_part (NumCheck k ∷ parts) ≡ true → 1 ≤ length prefix
    → FitForm form lead prefix rest → KeepsParts parts others → KeepsParts (NumCheck k ∷ parts) (with_check (key_digits lead prefix rest) ++ others)
digits_value k parts behind form lead prefix rest others same are some fits kept =
    let digits = have_digits (k - 1) behind lead prefix rest some (subst (λ f. FitForm f lead prefix rest) (sym same) fits) in
    let two : 2 ≤ k = leb-true 2 k (and_left (leb 2 k) (leb k 18) (and_left (is_part (NumCheck k)) (list_all is_part parts) are)) in
    checked_value k parts (key_digits lead prefix rest) others two digits.together digits.digits kept

digits_kept : (parts : List Part) (form : KeyForm) (lead : ℕ) (prefix rest piece total tail : List ℕ) → digits_form parts ≡ Some form
    → list_all is_part parts ≡ true → 1 ≤ length prefix
    → FitForm form lead prefix rest → FitsFurther (further_of form) piece total → FitsRoom (tail_of form) tail → KeepsParts parts
    (with_check (key_digits lead prefix rest) ++ (piece ++ (total ++ tail)))
digits_kept (NumCheck k ∷ []) form lead prefix rest piece total tail formed parts some fits further room =
    let same : Digits (k - 1) Nothing ≡ form = cc in
    let none = subst (λ f. FitsFurther (further_of f) piece total) (sym same) further in
    let room' : tail ≡ [] = subst (λ f. FitsRoom (tail_of f) tail) (sym same) room in
    digits_value k [] Nothing form lead prefix rest (piece ++ (total ++ tail)) same parts some fits (rw (none.0, none.1, room') nothing)
digits_kept (NumCheck k ∷ SetOpt most ∷ []) form lead prefix rest piece total tail formed parts some fits further room =
    let same : Digits (k - 1) (BehindTail (in_room.Characters most)) ≡ form = cc in
    let none = subst (λ f. FitsFurther (further_of f) piece total) (sym same) further in
    let room' = subst (λ f. FitsRoom (tail_of f) tail) (sym same) room in
    digits_value k (SetOpt most ∷ []) (BehindTail (in_room.Characters most)) form lead prefix rest (piece ++ (total ++ tail)) same parts some fits
    (rw (none.0, none.1) (at_end (SetOpt most) tail (optional_piece most tail room')))
digits_kept (NumCheck k ∷ NumOpt most ∷ []) form lead prefix rest piece total tail formed parts some fits further room =
    let same : Digits (k - 1) (BehindTail (in_room.Digits most)) ≡ form = cc in
    let none = subst (λ f. FitsFurther (further_of f) piece total) (sym same) further in
    let room' = subst (λ f. FitsRoom (tail_of f) tail) (sym same) room in
    digits_value k (NumOpt most ∷ []) (BehindTail (in_room.Digits most)) form lead prefix rest (piece ++ (total ++ tail)) same parts some fits
    (rw (none.0, none.1) (at_end (NumOpt most) tail (number_piece most tail room')))
digits_kept parts form lead prefix rest piece total tail formed are some fits further room = absurd (let e : None ≡ Some form = formed in cc)

-- digits and characters after them
behind_digits : (most lead : ℕ) (prefix rest : List ℕ) → 1 ≤ length prefix → FitForm (Characters most) lead prefix rest → AreCharacters most (prefix ++ rest)
behind_digits most lead prefix rest some fits =
    let whole = length-append prefix rest in
    let are = fits.1 in
    record {
      least = omega (arith, whole, some);
      room = omega (arith, whole, are.least, are.room);
      characters = both_pass is_in_set82 prefix rest (digits_in_set prefix fits.0) are.characters;
    }

key_kept : (parts : List Part) (form : KeyForm) (kind : Kind) (fields : KeyFields) → key_form parts ≡ Some form
    → list_all is_part parts ≡ true → 1 ≤ length fields.prefix
    → FitForm form kind.lead fields.prefix fields.rest → FitsFurther (further_of form) fields.piece fields.total → FitsRoom (tail_of form)
    (tail_of_key kind.serial fields.serial) → KeepsParts parts (key_value parts kind fields)
key_kept (Zero ∷ parts) form kind fields formed are some fits further room =
    in_front Zero parts (48 ∷ []) (with_check (key_digits kind.lead fields.prefix fields.rest) ++ behind_check kind fields) refl zero_piece
    (digits_kept parts form kind.lead fields.prefix fields.rest fields.piece fields.total (tail_of_key kind.serial fields.serial) formed (and_right (is_part Zero) (list_all is_part parts) are) some fits further room)
key_kept (NumCheck k ∷ Num a ∷ Num b ∷ []) form kind fields formed are some fits further room =
    let same : Digits (k - 1) (Further a b) ≡ form = cc in
    let has = subst (λ f. FitsFurther (further_of f) fields.piece fields.total) (sym same) further in
    let none : tail_of_key kind.serial fields.serial ≡ [] = subst (λ f. FitsRoom (tail_of f) (tail_of_key kind.serial fields.serial)) (sym same) room in
    let last : KeepsParts (Num b ∷ []) (fields.total ++ tail_of_key kind.serial fields.serial) = rw (none, append-nil) (at_end (Num b) fields.total (digits_piece b fields.total has.1)) in
    digits_value k (Num a ∷ Num b ∷ []) (Further a b) form kind.lead fields.prefix fields.rest (behind_check kind fields) same are some fits
    (in_front (Num a) (Num b ∷ []) fields.piece (fields.total ++ tail_of_key kind.serial fields.serial) has.0.0 (digits_piece a fields.piece has.0) last)
key_kept (Set most ∷ []) form kind fields formed are some fits further room =
    let same : Characters most ≡ form = cc in
    at_end (Set most) (fields.prefix ++ fields.rest) (set_piece most (fields.prefix ++ fields.rest) (behind_digits most kind.lead fields.prefix fields.rest some (subst (λ f. FitForm f kind.lead fields.prefix fields.rest) (sym same) fits)))
key_kept parts form kind fields formed are some fits further room =
    digits_kept parts form kind.lead fields.prefix fields.rest fields.piece fields.total
    (tail_of_key kind.serial fields.serial) formed are some fits further room

-- ---- the tail of a key

no_tail : (tail : Option Room) (more : Bool) → (is_none tail && more) ≡ true → FitsRoom tail []
no_tail None more h = refl
no_tail (Some most) more h = absurd (let e : false ≡ true = h in cc)

tail_fits : (ais : List AiRow) (row : AiRow) (form : KeyForm) (at : SerialAt) (serial : List ℕ) → is_serial_of ais row form at ≡ true
    → FitsRoom (serial_room ais form at) serial → FitsRoom (tail_of form) (tail_of_key at serial)
tail_fits ais row form Nowhere serial rule room = no_tail (tail_of form) true (and_from _ _ rule refl)
tail_fits ais row form Tail serial rule room = room
tail_fits ais row form (Ai code) serial rule room = no_tail (tail_of form) (list_any (bytes_eq code) row.qualifiers) (and_left _ _ rule)

-- ---- the value of a serial in a separate element

characters_kept : (parts : List Part) (serial : List ℕ) → is_some (characters_of parts) ≡ true
    → FitsRoom (option_map in_room.Characters (characters_of parts)) serial → KeepsParts parts serial
characters_kept (Set most ∷ []) serial some room = at_end (Set most) serial (set_piece most serial room)
characters_kept parts serial some room = absurd (let e : false ≡ true = some in cc)

serial_by_row : (found : Option AiRow) (serial : List ℕ) → option_map_or (λ (row : AiRow). is_some (characters_of row.parts)) found false ≡ true
    → FitsRoom (option_and_then (λ (row : AiRow). option_map in_room.Characters (characters_of row.parts)) found) serial → option_map_or
    (λ (row : AiRow). parts_error row.parts serial) found (Some Unknown) ≡ None
serial_by_row None serial are room = absurd (let e : false ≡ true = are in cc)
serial_by_row (Some row) serial are room = no_error row.parts serial (characters_kept row.parts serial are room)

pub serial_in_order : (ais : List AiRow) (row : AiRow) (form : KeyForm) (at : SerialAt) (serial : List ℕ)
    → is_serial_of ais row form at ≡ true → FitsRoom (serial_room ais form at) serial → All (IsInOrder ais) (serial_pairs at serial)
serial_in_order ais row form Nowhere serial rule room = All-nil (IsInOrder ais)
serial_in_order ais row form Tail serial rule room = All-nil (IsInOrder ais)
serial_in_order ais row form (Ai code) serial rule room =
    let are : is_characters ais code ≡ true = and_right (is_none (tail_of form) && list_any (bytes_eq code) row.qualifiers) (is_characters ais code) rule in
    All-cons (IsInOrder ais) (record { code = code; value = serial }) []
    (record { fits = serial_by_row (find (has_code code) ais) serial are room }) (All-nil (IsInOrder ais))

-- ---- fields that fit a kind

-- the value of the key is one of its row's
pub value_in_order : (ais : List AiRow) (kind : Kind) (fields : KeyFields) (fit : FitKind ais kind fields) → is_row fit.of_kind.row ≡ true
    → value_error ais kind.key (key_value (parts_at ais kind.key) kind fields) ≡ None
value_in_order ais kind fields fit in_order =
    let parts = fit.of_kind.row.parts in
    let tail = tail_fits ais fit.of_kind.row fit.of_kind.form kind.serial fields.serial fit.of_kind.serial fit.room in
    let further = subst (λ (lengths : List ℕ). FitsFurther lengths fields.piece fields.total) fit.of_kind.further fit.further in
    let kept = key_kept parts fit.of_kind.form kind fields fit.of_kind.formed (listed parts (row_parts fit.of_kind.row in_order)) fit.prefix_least fit.fits further tail in
    rw fit.of_kind.found (no_error parts (key_value parts kind fields) kept)

-- the key with its value, and the serial if it is in a separate element
pub pairs_in_order : (ais : List AiRow) (kind : Kind) (fields : KeyFields) (fit : FitKind ais kind fields) → is_row fit.of_kind.row ≡ true
    → All (IsInOrder ais) (key_pair ais kind fields ∷ serial_pairs kind.serial fields.serial)
pairs_in_order ais kind fields fit in_order =
    All-cons (IsInOrder ais) (key_pair ais kind fields) (serial_pairs kind.serial fields.serial) (record { fits = value_in_order ais kind fields fit in_order })
    (serial_in_order ais fit.of_kind.row fit.of_kind.form kind.serial fields.serial fit.of_kind.serial fit.room)

-- ---- digits that a check digit can follow

key_digits_of : (k : ℕ) (form : KeyForm) (tail : Behind) (lead : ℕ) (prefix rest : List ℕ) → Digits (k - 1) tail ≡ form
    → is_part (NumCheck k) ≡ true → 1 ≤ length prefix → FitForm form lead prefix rest → AreKeyDigits lead prefix rest
key_digits_of k form tail lead prefix rest same part some fits =
    let are = have_digits (k - 1) tail lead prefix rest some (subst (λ f. FitForm f lead prefix rest) (sym same) fits) in
    let most : k ≤ 18 = leb-true k 18 (and_right (leb 2 k) (leb k 18) part) in
    record {
      lead_within = are.lead_within;
      least = omega (arith, are.together, are.some_digit);
      most = omega (arith, are.together, most);
      digits = are.digits;
    }

by_digits : (parts : List Part) (form : KeyForm) (lead : ℕ) (prefix rest : List ℕ) → digits_form parts ≡ Some form
    → list_all is_part parts ≡ true → 1 ≤ length prefix → FitForm form lead prefix rest → AreKeyDigits lead prefix rest
by_digits (NumCheck k ∷ []) form lead prefix rest formed parts some fits =
    let same : Digits (k - 1) Nothing ≡ form = cc in
    key_digits_of k form Nothing lead prefix rest same (and_left (is_part (NumCheck k)) true parts) some fits
by_digits (NumCheck k ∷ SetOpt most ∷ []) form lead prefix rest formed parts some fits =
    let same : Digits (k - 1) (BehindTail (in_room.Characters most)) ≡ form = cc in
    key_digits_of k form (BehindTail (in_room.Characters most)) lead prefix rest same
    (and_left (is_part (NumCheck k)) (list_all is_part (SetOpt most ∷ [])) parts) some fits
by_digits (NumCheck k ∷ NumOpt most ∷ []) form lead prefix rest formed parts some fits =
    let same : Digits (k - 1) (BehindTail (in_room.Digits most)) ≡ form = cc in
    key_digits_of k form (BehindTail (in_room.Digits most)) lead prefix rest same
    (and_left (is_part (NumCheck k)) (list_all is_part (NumOpt most ∷ [])) parts) some fits
by_digits parts form lead prefix rest formed are some fits = absurd (let e : None ≡ Some form = formed in cc)

by_parts : (parts : List Part) (form : KeyForm) (lead : ℕ) (prefix rest : List ℕ) → key_form parts ≡ Some form
    → is_some (characters_of parts) ≡ false → list_all is_part parts ≡ true → 1 ≤ length prefix → FitForm form lead prefix rest
    → AreKeyDigits lead prefix rest
by_parts (Zero ∷ parts) form lead prefix rest formed digits are some fits = by_digits parts form lead prefix rest formed
    (and_right (is_part Zero) (list_all is_part parts) are) some fits
by_parts (NumCheck k ∷ Num a ∷ Num b ∷ []) form lead prefix rest formed digits are some fits =
    let same : Digits (k - 1) (Further a b) ≡ form = cc in
    key_digits_of k form (Further a b) lead prefix rest same (and_left (is_part (NumCheck k)) (list_all is_part (Num a ∷ Num b ∷ [])) are) some fits
by_parts (Set most ∷ []) form lead prefix rest formed digits are some fits = absurd (let e : true ≡ false = digits in cc)
by_parts parts form lead prefix rest formed digits are some fits = by_digits parts form lead prefix rest formed are some fits

-- the digits of a key that is not characters, by the row that is found
pub are_key_digits : (ais : List AiRow) (kind : Kind) (fields : KeyFields) (fit : FitKind ais kind fields) (row : AiRow)
    → Some row ≡ find (has_code kind.key) ais → is_row row ≡ true
    → is_some (characters_of row.parts) ≡ false → AreKeyDigits kind.lead fields.prefix fields.rest
are_key_digits ais kind fields fit row found in_order digits =
    let both : Some row ≡ Some fit.of_kind.row = found ∙ fit.of_kind.found in
    let same : row ≡ fit.of_kind.row = cc in
    let formed : key_form row.parts ≡ Some fit.of_kind.form = rw same fit.of_kind.formed in
    by_parts row.parts fit.of_kind.form kind.lead fields.prefix fields.rest formed digits (listed row.parts (row_parts row in_order)) fit.prefix_least fit.fits
