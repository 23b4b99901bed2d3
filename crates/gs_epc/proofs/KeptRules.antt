-- The conditions that the rules of options set for the values of the fields.
use Rattle.std.proofs.Common.{◌≡◌, ℕ, ◌-◌, ◌≤◌, ◌==◌, ◌&&◌, nat_le, not, if◌then◌else◌, Bool, true, false, List, [], ◌∷◌, length, Option, Some, None, refl, sym, ap, ◌∙◌, arith}
use Rattle.std.proofs.lemmas.Bool.Decides.{nat_tests}
use Rattle.gs_ai.specs.Tables.{is_empty}
use Rattle.gs_chars.specs.Characters.{are_digits}
use Rattle.gs_grammar.specs.declared.item.Item.{Item}
use Rattle.gs_grammar.specs.Items.{is_between}
use Rattle.gs_grammar.proofs.ItemTests.{between_is}
use Rattle.gs_tables_document.specs.declared.document.Field.TheVariants.{Gcp, Rest, Piece, Total, Serial}
use Rattle.gs_tables.specs.declared.form.Behind.TheVariants.{Nothing, Further, Tail as BehindTail}
use Rattle.gs_tables.specs.declared.form.KeyForm.{KeyForm}
use Rattle.gs_tables.specs.declared.form.KeyForm.TheVariants.{Digits, Characters}
use Rattle.gs_tables.specs.declared.form.Room.{Room}
use Rattle.gs_tables.specs.declared.form.Room.TheVariants as room
use Rattle.gs_tables.specs.Forms.{further_of}
use Rattle.gs_tables_document.specs.Items.{FieldItem, fields_of}
use Rattle.gs_tables.specs.Rules.{has_room, is_digits, is_free, is_gcp, is_one, is_padded, items_of_field, keeps_further, keeps_gcp, keeps_rest, keeps_serial}
use Rattle.gs_epc.specs.Epcs.{value_of}
use Rattle.gs_epc.specs.KeptFields.{FitForm, FitsFurther, FitsRoom}
use Rattle.gs_epc.proofs.KeptFields.{AreHeld, characters_of, digits_of, nothing_of, numbers_of}
use Rattle.std.proofs.lemmas.Bool.{and_parts}

-- ---- the prefix

record IsPrefix (form : KeyForm) (lead n : ℕ) (prefix : List ℕ) : Type 0 where
  length_kept : is_gcp form lead n ≡ true
  least : 1 ≤ n
  most : n ≤ 12
  count : length prefix ≡ n
  digits : are_digits prefix ≡ true

gcp_bounds : (form : KeyForm) (lead n : ℕ) → is_gcp form lead n ≡ true → (1 ≤ n) × (n ≤ 12)
gcp_bounds (Digits digits _) lead n h = between_is 1 12 n (and_parts (is_between 1 12 n) (nat_le n (digits - lead)) h).0
gcp_bounds (Characters _) lead n h = between_is 1 12 n h

prefix_kept : (bits : Bool) (form : KeyForm) (lead n : ℕ) (items : List FieldItem) (values words : List (List ℕ))
    → AreHeld bits items values words → keeps_gcp form lead n (items_of_field Gcp items) ≡ true
    → IsPrefix form lead n (value_of Gcp (fields_of items) values)
unfolding keeps_gcp
prefix_kept bits form lead n items values words held h =
    let parts = and_parts (is_gcp form lead n) (is_one (is_digits n) (items_of_field Gcp items)) h in
    let bounds = gcp_bounds form lead n parts.0 in
    let value = digits_of bits Gcp items values words n held parts.1 in
    record { length_kept = parts.0; least = bounds.0; most = bounds.1; count = value.0; digits = value.1 }

-- ---- the rest

digits_left : (bits : Bool) (digits n : ℕ) (items : List FieldItem) (values words : List (List ℕ)) → AreHeld bits items values words
    → (if digits - n == 0 then is_empty (items_of_field Rest items) else is_one (is_digits (digits - n)) (items_of_field Rest items)) ≡ true
    → (length (value_of Rest (fields_of items) values) ≡ digits - n) × (are_digits (value_of Rest (fields_of items) values) ≡ true)
digits_left bits digits n items values words held h = by (digits - n == 0) refl
  where
    by : (b : Bool) → (digits - n == 0) ≡ b
        → (length (value_of Rest (fields_of items) values) ≡ digits - n) × (are_digits (value_of Rest (fields_of items) values) ≡ true)
    by true e =
        let none = nothing_of Rest items values (rw e at h) in
        let zero : digits - n ≡ 0 = grind (arith, nat_tests) in
        rw (none, zero) (refl, refl)
    by false e = digits_of bits Rest items values words (digits - n) held (rw e at h)

only_room : (most : ℕ) (items : List Item) → is_one (is_free most) items ≡ true → is_one (has_room most) items ≡ true
only_room most [] h = h
only_room most (item ∷ []) h = (and_parts (not (is_padded item)) (has_room most item) h).1
only_room most (item ∷ other ∷ items) h = h

fits_form : (form : KeyForm) (lead n : ℕ) (bits : Bool) (items : List FieldItem) (values words : List (List ℕ))
    → AreHeld bits items values words → IsPrefix form lead n (value_of Gcp (fields_of items) values)
    → keeps_rest form n (items_of_field Rest items) ≡ true
    → FitForm form lead (value_of Gcp (fields_of items) values) (value_of Rest (fields_of items) values)
unfolding keeps_rest
fits_form (Digits digits _) lead n bits items values words held prefix h =
    let room : n ≤ digits - lead = let t = (and_parts (is_between 1 12 n) (nat_le n (digits - lead)) prefix.length_kept).1 in grind (arith, nat_tests) in
    let count = prefix.count in
    let rest = digits_left bits digits n items values words held h in
    (omega arith, rest.0 ∙ ap (λ k. digits - k) (sym count), prefix.digits, rest.1)
fits_form (Characters most) lead n bits items values words held prefix h =
    let rest = characters_of bits Rest items values words (most - n) held (only_room (most - n) (items_of_field Rest items) h) in
    (prefix.digits, rw prefix.count rest)

-- prefix and rest fit the form
pub record FitPrefix (form : KeyForm) (lead : ℕ) (prefix rest : List ℕ) : Type 0 where
  pub prefix_least : 1 ≤ length prefix
  pub prefix_most : length prefix ≤ 12
  pub fits : FitForm form lead prefix rest

pub fits_prefix : (form : KeyForm) (lead n : ℕ) (bits : Bool) (items : List FieldItem) (values words : List (List ℕ))
    → AreHeld bits items values words → keeps_gcp form lead n (items_of_field Gcp items) ≡ true
    → keeps_rest form n (items_of_field Rest items) ≡ true
    → FitPrefix form lead (value_of Gcp (fields_of items) values) (value_of Rest (fields_of items) values)
fits_prefix form lead n bits items values words held gcp rest =
    let prefix = prefix_kept bits form lead n items values words held gcp in
    let least = prefix.least in
    let most = prefix.most in
    let count = prefix.count in
    record { prefix_least = omega arith; prefix_most = omega arith; fits = fits_form form lead n bits items values words held prefix rest }

-- ---- the serial

pub fits_room : (room : Option Room) (bits : Bool) (items : List FieldItem) (values words : List (List ℕ)) → AreHeld bits items values words
    → keeps_serial room (items_of_field Serial items) ≡ true → FitsRoom room (value_of Serial (fields_of items) values)
unfolding keeps_serial
fits_room None bits items values words held h = nothing_of Serial items values h
fits_room (Some (room.Characters most)) bits items values words held h = characters_of bits Serial items values words most held h
fits_room (Some (room.Digits most)) bits items values words held h = numbers_of bits Serial items values words most held h

-- ---- the piece and the total

no_further : (items : List FieldItem) (values : List (List ℕ))
    → (is_empty (items_of_field Piece items) && is_empty (items_of_field Total items)) ≡ true
    → FitsFurther [] (value_of Piece (fields_of items) values) (value_of Total (fields_of items) values)
no_further items values h =
    let parts = and_parts (is_empty (items_of_field Piece items)) (is_empty (items_of_field Total items)) h in
    (nothing_of Piece items values parts.0, nothing_of Total items values parts.1)

pub fits_further : (form : KeyForm) (bits : Bool) (items : List FieldItem) (values words : List (List ℕ)) → AreHeld bits items values words
    → keeps_further form (items_of_field Piece items) (items_of_field Total items) ≡ true
    → FitsFurther (further_of form) (value_of Piece (fields_of items) values) (value_of Total (fields_of items) values)
unfolding keeps_further
fits_further (Digits digits Nothing) bits items values words held h = no_further items values h
fits_further (Digits digits (BehindTail room)) bits items values words held h = no_further items values h
fits_further (Digits digits (Further a b)) bits items values words held h =
    let parts = and_parts (is_one (is_digits a) (items_of_field Piece items)) (is_one (is_digits b) (items_of_field Total items)) h in
    (digits_of bits Piece items values words a held parts.0, digits_of bits Total items values words b held parts.1)
fits_further (Characters most) bits items values words held h = no_further items values h
