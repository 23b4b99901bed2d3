-- The link of the identity that an EPC names, written step by step.
use Rattle.std.proofs.Common.{◌≡◌, ◌==◌, ◌&&◌, ℕ, not, Bool, true, false, List, [], ◌∷◌, ◌++◌, length, suc, Option, Some, None, slice_get, bytes_eq, append-nil, refl, sym, ap, ◌∙◌, arith}
use Rattle.std.proofs.lemmas.Bool.Decides.{nat_tests}
use Rattle.std.specs.List.{find, flat_map}
use Rattle.std.specs.Option.{option_map_or}
use Rattle.gs_ai.specs.declared.pair.Pair.{Pair}
use Rattle.gs_ai.specs.declared.row.AiRow.{AiRow}
use Rattle.gs_ai.specs.Tables.{is_empty}
use Rattle.gs_ai.specs.Values.{has_code}
use Rattle.gs_ident.specs.Elements.{Elements}
use Rattle.gs_ident.specs.Identities.{stands_for_none}
use Rattle.gs_ident.specs.Links.{path_step, percent_encoded}
use Rattle.gs_tables_document.specs.declared.document.Kind.{Kind}
use Rattle.gs_tables_document.specs.declared.document.SerialAt.TheVariants.{Ai}
use Rattle.gs_tables.specs.Tables.{TableRows}
use Rattle.gs_epc.specs.declared.epc.Epc.{Epc}
use Rattle.gs_epc.specs.Layout.{IsLaidOut, KeyFields, fields_in, lay, serial_elements}
use Rattle.gs_epc.specs.LayoutSupport.{coded_pairs}

-- ---- the text that means none

not_none : (n : ℕ) → (suc n == 0) ≡ false
not_none n = grind (arith, nat_tests)

without_bytes : (text : List ℕ) → (length text == 0) ≡ is_empty text
without_bytes [] = refl
without_bytes (x ∷ text) = not_none (length text)

none_of : (found : Option AiRow) (none value : List ℕ) → none ≡ option_map_or (λ (row : AiRow). row.none) found []
    → (not (length none == 0) && bytes_eq none value) ≡ option_map_or (λ (row : AiRow). not (is_empty row.none) && bytes_eq row.none value) found false
none_of None none value e = rw e refl
none_of (Some row) none value e = rw e (ap (λ (b : Bool). not b && bytes_eq row.none value) (without_bytes row.none))

pub means_none : (ais : List AiRow) (code value none : List ℕ) → none ≡ option_map_or (λ (row : AiRow). row.none) (find (has_code code) ais) []
    → (not (length none == 0) && bytes_eq none value) ≡ stands_for_none ais (record { code = code; value = value })
means_none ais code value none e = none_of (find (has_code code) ais) none value e

-- ---- the code of a serial that counts

module _ (ais : List AiRow) (code serial : List ℕ) where
  pub no_code : stands_for_none ais (record { code = code; value = serial }) ≡ true → coded_pairs None serial ≡ serial_elements ais (Ai code) serial
  no_code none = rw none refl

  pub one_code : (seen : List ℕ) → seen ≡ code → stands_for_none ais (record { code = code; value = serial }) ≡ false → coded_pairs
      (Some seen) serial ≡ serial_elements ais (Ai code) serial
  one_code seen same some = rw (same, some) refl

-- ---- the steps of the path

module _ (elements : List Pair) (serial : List ℕ) where
  pub no_step : (out : List ℕ) → coded_pairs None serial ≡ elements → out ≡ out ++ flat_map path_step elements
  no_step out are = rw (← are) (sym (append-nil out))

  pub one_step : (code before now : List ℕ) → coded_pairs (Some code) serial ≡ elements
      → now ≡ before ++ (47 ∷ (code ++ 47 ∷ percent_encoded serial)) → now ≡ before ++ flat_map path_step elements
  one_step code before now are is =
      rw (← are) (is ∙ ap (λ (step : List ℕ). before ++ step) (sym (append-nil (47 ∷ (code ++ 47 ∷ percent_encoded serial)))))

-- ---- the identity of the EPC

pub laid_is : (set : TableRows) (epc : Epc) (identity : Elements) (kind : Kind) (ais : List AiRow) (fields : KeyFields)
    → slice_get set.kinds epc.kind ≡ Some kind → ais ≡ set.ais → fields ≡ fields_in epc → IsLaidOut set epc identity
    → lay ais kind fields ≡ identity
laid_is set epc identity kind ais fields named of_set of_epc laid =
    let both : Some kind ≡ Some laid.kind = sym named ∙ laid.named in
    let same : kind ≡ laid.kind = cc in
    rw (of_set, of_epc, same) (sym laid.laid)
