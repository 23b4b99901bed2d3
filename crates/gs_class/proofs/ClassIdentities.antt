-- The fields of a class fit its key and its element, and are laid out as the identity of the class.
use Rattle.std.proofs.Common.{◌≡◌, ℕ, ◌-◌, true, false, List, [], ◌∷◌, Option, Some, Ok, is_some, find, refl, sym}
use Rattle.std.specs.Option.{option_map_or}
use Rattle.std.proofs.lemmas.List.{append-nil}
use Rattle.gs_ai.specs.declared.pair.Pair.{Pair}
use Rattle.gs_ai.specs.declared.part.Part.TheVariants.{NumCheck}
use Rattle.gs_ai.specs.declared.row.AiRow.{AiRow}
use Rattle.gs_ai.specs.Tables.{KeepsRules, is_row}
use Rattle.gs_ai.specs.Values.{has_code}
use Rattle.gs_ident.specs.Elements.{Elements}
use Rattle.gs_ident.specs.Identities.{identity_of_pairs, stands_for_none}
use Rattle.gs_ident.specs.QualifiedKeys.{IsQualifiedKey, pairs_in}
use Rattle.gs_grammar.specs.Derivations.{EachWord}
use Rattle.gs_tables_document.specs.declared.document.SerialAt.TheVariants.{Ai}
use Rattle.gs_tables_document.specs.Items.{alone, present}
use Rattle.gs_tables.specs.declared.form.Behind.TheVariants.{Nothing}
use Rattle.gs_tables.specs.declared.form.KeyForm.TheVariants.{Digits}
use Rattle.gs_tables.specs.declared.form.Room.TheVariants.{Characters}
use Rattle.gs_tables.specs.Forms.{characters_of, serial_room}
use Rattle.gs_tables.specs.KeptRules.{KeptKind}
use Rattle.gs_tables.specs.Rules.{is_serial_of}
use Rattle.gs_epc.specs.Layout.{AreKeyDigits, KeyFields, key_digits, key_pair, key_value, lay, parts_at, with_check}
use Rattle.gs_epc.specs.LayoutSupport.{serial_pairs}
use Rattle.gs_epc.proofs.KeptFields.{AreHeld}
use Rattle.gs_epc.proofs.KeptRules.{fits_prefix, fits_room}
use Rattle.gs_ident.proofs.KeyPairs.{found_place}
use Rattle.gs_epc.proofs.LayoutLaws.{is_qualified, made_is}
use Rattle.gs_epc.proofs.LayoutValues.{are_key_digits}
use Rattle.gs_class.specs.declared.class_set.Class.{Class}
use Rattle.gs_class.specs.declared.document.ClassRow.{ClassRow}
use Rattle.gs_class.specs.Meanings.{said_by}
use Rattle.gs_class.specs.MeaningsSupport.{FitsClass}
use Rattle.gs_class.specs.Sets.{class_of, kind_of}
use Rattle.gs_class.proofs.KeptClasses.{KeptClass}

-- ---- fields that fit a class

characters_there : (found : Option AiRow) (element : AiRow) (most : ℕ) → found ≡ Some element → characters_of element.parts ≡ Some most
    → option_map_or (λ (row : AiRow). is_some (characters_of row.parts)) found false ≡ true
characters_there found element most e f = rw (e, f) refl

pub serial_kept : (ais : List AiRow) (row : ClassRow) (kept : KeptClass ais row)
    → is_serial_of ais kept.key (Digits (kept.k - 1) Nothing) (Ai row.element) ≡ true
serial_kept ais row kept = rw (kept.lists, characters_there (find (has_code row.element) ais) kept.element kept.most kept.element_found kept.room.characters) refl

-- the kind that a class is satisfies the rules of kinds
abbrev pub kind_kept : (ais : List AiRow) (row : ClassRow) (kept : KeptClass ais row) → KeptKind ais (kind_of (class_of row))
kind_kept ais row kept = record {
  row = kept.key;
  form = Digits (kept.k - 1) Nothing;
  found = kept.found;
  key = kept.role;
  formed = rw kept.parts refl;
  lead = kept.lead;
  serial = serial_kept ais row kept;
  further = refl;
}

room_is : (ais : List AiRow) (row : ClassRow) (kept : KeptClass ais row)
    → serial_room ais (Digits (kept.k - 1) Nothing) (Ai row.element) ≡ Some (Characters kept.most)
room_is ais row kept = rw (kept.element_found, kept.room.characters) refl

-- each value of the element counts
pub none_stands : (ais : List AiRow) (row : ClassRow) (kept : KeptClass ais row) (value : List ℕ) → stands_for_none ais
    (record { code = row.element; value = value }) ≡ false
none_stands ais row kept value = rw (kept.element_found, kept.room.none) refl

-- the fields of the values of a row's items fit its class
pub fits_class : (ais : List AiRow) (row : ClassRow) (kept : KeptClass ais row) (values words : List (List ℕ))
    → EachWord (alone (present row.items)) values words → FitsClass ais (class_of row) (said_by (class_of row) values)
fits_class ais row kept values words each =
    let parts = present row.items in
    let held : AreHeld false parts values words = record { each = each; good = kept.bounds.none_bad } in
    let fit = fits_prefix (Digits (kept.k - 1) Nothing) row.lead row.gcp false parts values words held kept.gcp kept.rest in
    let room = fits_room (Some (Characters kept.most)) false parts values words held kept.serial in
    record {
      fit = record { of_kind = kind_kept ais row kept; prefix_least = fit.prefix_least; prefix_most = fit.prefix_most; fits = fit.fits; further = (refl, refl); room = rw (room_is ais row kept) room };
      k = kept.k;
      parts = kept.parts;
      counts = none_stands ais row kept;
    }

module _ (ais : List AiRow) (class : Class) (said : KeyFields) (fits : FitsClass ais class said) (rules : KeepsRules ais) where
  abbrev key : AiRow
  key = fits.fit.of_kind.row

  in_order : is_row key ≡ true
  in_order = let place = found_place (has_code class.key) ais key fits.fit.of_kind.found in (rules.rows_in_order place.0 key place.1).0

  -- the digits of the key can have a check digit
  pub digits_fit : AreKeyDigits class.lead said.prefix said.rest
  digits_fit =
      let none : is_some (characters_of key.parts) ≡ false = rw fits.parts refl in
      are_key_digits ais (kind_of class) said fits.fit key (sym fits.fit.of_kind.found) in_order none

  value_is : key_value (parts_at ais class.key) (kind_of class) said ≡ with_check (key_digits class.lead said.prefix said.rest)
  value_is =
      let parts : parts_at ais class.key ≡ NumCheck fits.k ∷ [] = rw (fits.fit.of_kind.found, fits.parts) refl in
      rw (parts, fits.fit.further.0, fits.fit.further.1) (append-nil (with_check (key_digits class.lead said.prefix said.rest)))

  key_is : (code value : List ℕ) → code ≡ class.key → value ≡ with_check (key_digits class.lead said.prefix said.rest)
      → record { code = code; value = value } ≡ key_pair ais (kind_of class) said
  key_is code value a b = rw (a, b, value_is) refl

  element_is : (code value : List ℕ) → code ≡ class.element → value ≡ said.serial → pairs_in
      (Some (record { code = code; value = value })) ≡ serial_pairs (Ai class.element) said.serial
  element_is code value a b = rw (a, b) refl

  -- the key and the element are those of its kind
  pub is_key : (code value element lot : List ℕ) → code ≡ class.key → value ≡ with_check (key_digits class.lead said.prefix said.rest)
      → element ≡ class.element → lot ≡ said.serial
      → IsQualifiedKey ais (record { code = code; value = value }) (Some (record { code = element; value = lot }))
  is_key code value element lot a b d e =
      let own : Pair = record { code = code; value = value } in
      let other : Pair = record { code = element; value = lot } in
      is_qualified ais (kind_of class) said own (Some other) (key_is code value a b) (element_is element lot d e) fits.fit rules

  pub identity_is : (code value element lot : List ℕ) (identity : Elements) → code ≡ class.key
      → value ≡ with_check (key_digits class.lead said.prefix said.rest) → element ≡ class.element → lot ≡ said.serial
      → identity_of_pairs ais (record { code = code; value = value } ∷ pairs_in (Some (record { code = element; value = lot }))) ≡ Ok identity → identity ≡ lay ais (kind_of class) said
  identity_is code value element lot identity a b d e made =
      let own : Pair = record { code = code; value = value } in
      let other : Pair = record { code = element; value = lot } in
      made_is ais (kind_of class) said own (Some other) (key_is code value a b) (element_is element lot d e) fits.fit rules identity made
