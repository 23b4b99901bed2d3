-- The pairs that an EPC lays out are valid, and have the identity of its layout.
use Rattle.std.proofs.Common.{◌≡◌, ℕ, ◌&&◌, true, List, [], ◌∷◌, All, Option, Result, Ok, Err, IfOk, append-nil, bytes_eq, is_none, refl, sym, subst, ap, ◌∙◌, inl, inr}
use Rattle.std.proofs.lemmas.List.Elements.{All-cons, All-nil}
use Rattle.std.specs.List.{list_any}
use Rattle.gs_ai.specs.declared.pair.Pair.{Pair}
use Rattle.gs_ai.specs.declared.row.AiRow.{AiRow}
use Rattle.gs_ai.specs.Tables.{KeepsRules, is_row}
use Rattle.gs_ai.specs.Values.{has_code}
use Rattle.gs_ai.proofs.RowLemmas.{and_left, and_right}
use Rattle.gs_chars.proofs.TruthsAndLists.{true_or_false}
use Rattle.gs_ident.specs.Elements.{Elements, elements_with, pairs_of}
use Rattle.gs_ident.specs.Identities.{IsInOrder, IsMadeWith, counted, identity_of_pairs, stands_for_none}
use Rattle.gs_ident.specs.QualifiedKeys.{IsQualifiedKey, pairs_in}
use Rattle.gs_tables.specs.declared.form.KeyForm.{KeyForm}
use Rattle.gs_tables_document.specs.declared.document.Kind.{Kind}
use Rattle.gs_tables_document.specs.declared.document.SerialAt.{SerialAt}
use Rattle.gs_tables_document.specs.declared.document.SerialAt.TheVariants.{Nowhere, Tail, Ai}
use Rattle.gs_tables.specs.Forms.{tail_of}
use Rattle.gs_tables.specs.Rules.{is_characters, is_serial_of}
use Rattle.gs_epc.specs.KeptFields.{FitKind}
use Rattle.gs_epc.specs.Layout.{key_pair, lay, serial_elements, unless_none, KeyFields}
use Rattle.gs_epc.specs.LayoutSupport.{serial_pairs}
use Rattle.gs_epc.specs.declared.layout.KeyAndSerial.{KeyAndSerial}
use Rattle.gs_ident.proofs.IdentityLemmas.{made_with}
use Rattle.gs_ident.proofs.KeyPairs.{IsKeyPair, alone_made, both_made, found_place, is_key_pair}
use Rattle.gs_epc.proofs.LayoutValues.{pairs_in_order}

-- a pair counts unless its value means none
counted_one : (ais : List AiRow) (pair : Pair) → counted ais (pair ∷ []) ≡ unless_none ais pair
counted_one ais pair = elim (true_or_false (stands_for_none ais pair)) [
  | inl none ↦ rw none refl
  | inr some ↦ rw some refl
]

by_serial : (ais : List AiRow) (row : AiRow) (form : KeyForm) (at : SerialAt) (key : Pair) (serial : List ℕ)
    → IsKeyPair ais row.qualifiers key → is_serial_of ais row form at ≡ true
    → identity_of_pairs ais (key ∷ serial_pairs at serial) ≡ Ok (record { key = key; qualifiers = serial_elements ais at serial; attributes = [] })
by_serial ais row form Nowhere key serial is rule = alone_made ais row.qualifiers key is
by_serial ais row form Tail key serial is rule = alone_made ais row.qualifiers key is
by_serial ais row form (Ai code) key serial is rule =
    let lists = and_right (is_none (tail_of form)) (list_any (bytes_eq code) row.qualifiers) (and_left (is_none (tail_of form) && list_any (bytes_eq code) row.qualifiers) (is_characters ais code) rule) in
    let one : Pair = record { code = code; value = serial } in
    both_made ais row.qualifiers key is one lists ∙ ap (λ (q : List Pair). Ok (record { key = key; qualifiers = q; attributes = [] })) (counted_one ais one)

module _ (ais : List AiRow) (kind : Kind) (fields : KeyFields) (fit : FitKind ais kind fields) (rules : KeepsRules ais) where
  pub laid_in_order : All (IsInOrder ais) (key_pair ais kind fields ∷ serial_pairs kind.serial fields.serial)
  laid_in_order =
      let place = found_place (has_code kind.key) ais fit.of_kind.row fit.of_kind.found in
      let in_order : is_row fit.of_kind.row ≡ true = (rules.rows_in_order place.0 fit.of_kind.row place.1).0 in
      pairs_in_order ais kind fields fit in_order

  pub laid_identity : identity_of_pairs ais (key_pair ais kind fields ∷ serial_pairs kind.serial fields.serial) ≡ Ok (lay ais kind fields)
  laid_identity =
      let key = key_pair ais kind fields in
      by_serial ais fit.of_kind.row fit.of_kind.form kind.serial key fields.serial
      (is_key_pair ais fit.of_kind.row key rules fit.of_kind.found fit.of_kind.key) fit.of_kind.serial

  -- the identity of the layout was made with the table
  pub laid_with : IsMadeWith ais (lay ais kind fields)
  laid_with = made_with ais (key_pair ais kind fields ∷ serial_pairs kind.serial fields.serial) (lay ais kind fields) laid_in_order laid_identity

  -- its pairs, without a list of attributes
  pub pairs_laid_in_order : All (IsInOrder ais) (key_pair ais kind fields ∷ serial_elements ais kind.serial fields.serial)
  pairs_laid_in_order =
      subst (λ (pairs : List Pair). All (IsInOrder ais) (key_pair ais kind fields ∷ pairs))
      (append-nil (serial_elements ais kind.serial fields.serial)) laid_with.in_order

-- ---- the identity, and its pairs alone

-- the identity of these pairs is the layout
pub laid_out : (ais : List AiRow) (kind : Kind) (fields : KeyFields) (identity : Elements) (key : Pair) (qualifiers attributes : List Pair)
    → identity ≡ elements_with key qualifiers attributes → key ≡ key_pair ais kind fields
    → qualifiers ≡ serial_elements ais kind.serial fields.serial → attributes ≡ []
    → identity ≡ lay ais kind fields
laid_out ais kind fields identity key qualifiers attributes is keyed qualified none = rw (is, keyed, qualified, none) refl

module _ {E : Type 0} (ais : List AiRow) (kind : Kind) (fields : KeyFields) where
  -- the pairs that were made are those of the identity
  pub pairs_are : (result : Result KeyAndSerial E) (identity : Elements) → IfOk result (λ pairs. pairs.key ≡ key_pair ais kind fields)
      → IfOk result (λ pairs. pairs_in pairs.serial ≡ serial_elements ais kind.serial fields.serial) → lay ais kind fields ≡ identity
      → IfOk result (λ pairs. pairs_of identity ≡ pairs.key ∷ pairs_in pairs.serial)
  pairs_are (Ok pairs) identity keyed qualified is =
      rw (← is, keyed, qualified) (ap (λ (others : List Pair). key_pair ais kind fields ∷ others) (append-nil (serial_elements ais kind.serial fields.serial)))
  pairs_are (Err error) identity keyed qualified is = tt

  pub made_in_order : (result : Result KeyAndSerial E) → IfOk result (λ pairs. pairs.key ≡ key_pair ais kind fields)
      → IfOk result (λ pairs. pairs_in pairs.serial ≡ serial_elements ais kind.serial fields.serial) → FitKind ais kind fields
      → KeepsRules ais
      → IfOk result (λ pairs. All (IsInOrder ais) (pairs.key ∷ pairs_in pairs.serial))
  made_in_order (Ok pairs) keyed qualified fit rules = rw (keyed, qualified) (pairs_laid_in_order ais kind fields fit rules)
  made_in_order (Err error) keyed qualified fit rules = tt

-- ---- the identity that `of_key` makes

-- the key of the kind has its row, which lists the code of a serial in a separate element
lists_serial : (ais : List AiRow) (row : AiRow) (form : KeyForm) (at : SerialAt) (serial : List ℕ) → is_serial_of ais row form at ≡ true
    → All (λ pair. list_any (bytes_eq pair.code) row.qualifiers ≡ true) (serial_pairs at serial)
lists_serial ais row form Nowhere serial rule = All-nil (λ (pair : Pair). list_any (bytes_eq pair.code) row.qualifiers ≡ true)
lists_serial ais row form Tail serial rule = All-nil (λ (pair : Pair). list_any (bytes_eq pair.code) row.qualifiers ≡ true)
lists_serial ais row form (Ai code) serial rule =
    All-cons (λ (pair : Pair). list_any (bytes_eq pair.code) row.qualifiers ≡ true) (record { code = code; value = serial }) []
    (and_right (is_none (tail_of form)) (list_any (bytes_eq code) row.qualifiers) (and_left (is_none (tail_of form) && list_any (bytes_eq code) row.qualifiers) (is_characters ais code) rule))
    (All-nil (λ (pair : Pair). list_any (bytes_eq pair.code) row.qualifiers ≡ true))

module _ (ais : List AiRow) (kind : Kind) (fields : KeyFields) (key : Pair) (serial : Option Pair) (keyed : key ≡ key_pair ais kind fields)
    (laid : pairs_in serial ≡ serial_pairs kind.serial fields.serial)
    (fit : FitKind ais kind fields) (rules : KeepsRules ais) where
  pub is_qualified : IsQualifiedKey ais key serial
  is_qualified = record {
    in_order = rw (keyed, laid) (laid_in_order ais kind fields fit rules);
    row = fit.of_kind.row;
    found = rw keyed fit.of_kind.found;
    role = fit.of_kind.key;
    lists = rw laid (lists_serial ais fit.of_kind.row fit.of_kind.form kind.serial fields.serial fit.of_kind.serial);
  }

  pub made_is : (identity : Elements) → identity_of_pairs ais (key ∷ pairs_in serial) ≡ Ok identity → identity ≡ lay ais kind fields
  made_is identity made =
      let laid_out : identity_of_pairs ais (key ∷ pairs_in serial) ≡ Ok (lay ais kind fields) = rw (keyed, laid) (laid_identity ais kind fields fit rules) in
      let both : Ok identity ≡ Ok (lay ais kind fields) = sym made ∙ laid_out in cc
