-- Laying out undoes taking apart, for an identity of the table.
use Rattle.std.proofs.Common.{◌≡◌, ℕ, suc, ◌&&◌, ◌||◌, not, Bool, true, false, List, [], ◌∷◌, filter, Option, Some, None, bytes_eq, find, is_some, is_none, slice_get, refl, sym, ◌∙◌, inl, inr, true≢false}
use Rattle.std.specs.List.{filter_map, list_any}
use Rattle.std.specs.Option.{option_map_or}
use Rattle.gs_chars.proofs.TruthsAndLists.{true_or_false, equal_bytes, same_bytes}
use Rattle.gs_ai.specs.declared.pair.Pair.{Pair}
use Rattle.gs_ai.specs.declared.part.Part.{Part}
use Rattle.gs_ai.specs.declared.row.AiRow.{AiRow}
use Rattle.gs_ai.specs.Tables.{are_distinct, is_empty}
use Rattle.gs_ai.specs.Values.{has_code}
use Rattle.gs_ai.proofs.RowLemmas.{and_left}
use Rattle.gs_ident.specs.Elements.{Elements}
use Rattle.gs_ident.specs.Identities.{counted, pair_with, stands_for_none}
use Rattle.gs_ident.proofs.PairLemmas.{find_by_cases, found_passes}
use Rattle.gs_tables_document.specs.declared.document.SerialAt.{SerialAt}
use Rattle.gs_tables_document.specs.declared.document.SerialAt.TheVariants.{Nowhere, Tail, Ai}
use Rattle.gs_tables.specs.declared.form.KeyForm.{KeyForm}
use Rattle.gs_tables.specs.declared.form.Room.{Room}
use Rattle.gs_tables.specs.Forms.{tail_of}
use Rattle.gs_tables.specs.Rules.{is_characters, is_serial_of}
use Rattle.gs_epc.specs.Layout.{serial_elements, tail_of_key}
use Rattle.gs_epc.specs.KeyParts.{serial_in, tail_in, unless_empty}
use Rattle.gs_epc.proofs.LaidAgain.{IsTail}
use Rattle.std.proofs.lemmas.Bool.{and_parts}

-- ---- the qualifiers

-- a pair that is found among those that pass a test passes it
pub found_kept : (t p : Pair → Bool) (pairs : List Pair) (pair : Pair) → find p (filter t pairs) ≡ Some pair → t pair ≡ true
found_kept t p [] pair e = absurd (let f : None ≡ Some pair = e in cc)
found_kept t p (first ∷ pairs) pair e = elim (true_or_false (t first)) [
  | inl h ↦ let f : find p (first ∷ filter t pairs) ≡ Some pair = rw h at e in elim (true_or_false (p first)) [
    | inl g ↦ let k : Some first ≡ Some pair = rw g at f in let same : first ≡ pair = cc in rw same at h
    | inr g ↦ found_kept t p pairs pair (rw g at f)
  ]
  | inr h ↦ found_kept t p pairs pair (rw h at e)
]

-- the code of a pair that is found by a code
code_found : (pairs : List Pair) (code : List ℕ) (pair : Pair) → pair_with pairs code ≡ Some pair → code ≡ pair.code
code_found pairs code pair e = equal_bytes code pair.code (found_passes (λ p. bytes_eq code p.code) pairs pair e)

abbrev pub AllOf : List ℕ → List Pair → Type 0
AllOf code pairs = (i : ℕ) (pair : Pair) → slice_get pairs i ≡ Some pair → pair.code ≡ code

differs_first : (a b : Bool) → not (a) ≡ true → a ≡ false
differs_first true b h = absurd (let e : false ≡ true = h in cc)
differs_first false b h = refl

-- if each found pair has a code that is not one of these, no pair is found
none_else : (pairs : List Pair) (code : List ℕ) (codes : List (List ℕ)) → list_any (bytes_eq code) codes ≡ false
    → AllOf code (filter_map (pair_with pairs) codes) → filter_map (pair_with pairs) codes ≡ []
none_else pairs code [] apart all = refl
none_else pairs code (other ∷ codes) apart all = elim (find_by_cases (λ (p : Pair). bytes_eq other p.code) pairs) [
  | inl found ↦
      let here : pair_with pairs other ≡ Some found.0 = found.1 in
      let own = code_found pairs other found.0 here in
      let head : AllOf code (found.0 ∷ filter_map (pair_with pairs) codes) = rw here at all in
      let same : other ≡ code = own ∙ head 0 found.0 refl in
      let there : list_any (bytes_eq code) (other ∷ codes) ≡ true = rw (same, same_bytes code) refl in
      absurd (true≢false (sym there ∙ apart))
  | inr nothing ↦
      let here : pair_with pairs other ≡ None = nothing in
      let rest : AllOf code (filter_map (pair_with pairs) codes) = rw here at all in
      rw here (none_else pairs code codes (behind (bytes_eq code other) (list_any (bytes_eq code) codes) apart) rest)
]
  where
    behind : (a b : Bool) → (a || b) ≡ false → b ≡ false
    behind true b e = absurd (let f : true ≡ false = e in cc)
    behind false true e = absurd (let f : true ≡ false = e in cc)
    behind false false e = refl

-- one qualifier of the code at most, which counts
pub data AreOne (table : List AiRow) (code : List ℕ) (qualifiers : List Pair) : Type 0 where
  nothing : qualifiers ≡ [] → AreOne table code qualifiers
  one : (pair : Pair) → qualifiers ≡ pair ∷ [] → pair.code ≡ code → stands_for_none table pair ≡ false → AreOne table code qualifiers

counts : (table : List AiRow) (given : List Pair) (code : List ℕ) (pair : Pair) → pair_with (counted table given) code ≡ Some pair
    → stands_for_none table pair ≡ false
counts table given code pair e = differs_first (stands_for_none table pair) true
    (found_kept (λ p. not (stands_for_none table p)) (λ p. bytes_eq code p.code) given pair e)

pub are_one : (table : List AiRow) (given : List Pair) (code : List ℕ) (codes : List (List ℕ)) → are_distinct codes ≡ true
    → AllOf code (filter_map (pair_with (counted table given)) codes)
    → AreOne table code (filter_map (pair_with (counted table given)) codes)
are_one table given code [] distinct all = nothing refl
are_one table given code (other ∷ codes) distinct all =
    let parts = and_parts (not (list_any (bytes_eq other) codes)) (are_distinct codes) distinct in
    elim (find_by_cases (λ (p : Pair). bytes_eq other p.code) (counted table given)) [
      | inl found ↦
          let here : pair_with (counted table given) other ≡ Some found.0 = found.1 in
          let own = code_found (counted table given) other found.0 here in
          let head : AllOf code (found.0 ∷ filter_map (pair_with (counted table given)) codes) = rw here at all in
          let same : other ≡ code = own ∙ head 0 found.0 refl in
          let apart : list_any (bytes_eq code) codes ≡ false = rw same at (differs_first (list_any (bytes_eq other) codes) true parts.0) in
          let rest = none_else (counted table given) code codes apart (λ i pair at. head (suc i) pair at) in
          one found.0 (rw (here, rest) refl) (head 0 found.0 refl) (counts table given other found.0 here)
      | inr none ↦
          let here : pair_with (counted table given) other ≡ None = none in
          let rest : AllOf code (filter_map (pair_with (counted table given)) codes) = rw here at all in
          rw here (are_one table given code codes parts.1 rest)
    ]

pub no_pairs : (pairs : List Pair) → ((i : ℕ) (pair : Pair) → slice_get pairs i ≡ Some pair → ⊥) → pairs ≡ []
no_pairs [] none = refl
no_pairs (pair ∷ pairs) none = absurd (none 0 pair refl)

-- ---- the serial's element

none_stands : (row : Option AiRow) (serial : List ℕ) → unless_empty (option_map_or (λ (r : AiRow). r.none) row []) ≡ Some serial
    → option_map_or (λ (r : AiRow). not (is_empty r.none) && bytes_eq r.none serial) row false ≡ true
none_stands None serial e = absurd (let f : None ≡ Some serial = e in cc)
none_stands (Some row) serial e = by row.none e
  where
    by : (text : List ℕ) → unless_empty text ≡ Some serial → (not (is_empty text) && bytes_eq text serial) ≡ true
    by [] e = absurd (let f : None ≡ Some serial = e in cc)
    by (c ∷ text) e = let same : c ∷ text ≡ serial = cc in rw same (same_bytes serial)

pub own_element : (ais : List AiRow) (parts : List Part) (code serial : List ℕ) (identity : Elements) → AreOne ais code identity.qualifiers
    → serial_in ais parts (Ai code) identity ≡ Some serial → identity.qualifiers ≡ serial_elements ais (Ai code) serial
own_element ais parts code serial identity (nothing none) e =
    let f : unless_empty (option_map_or (λ (row : AiRow). row.none) (find (has_code code) ais) []) ≡ Some serial = rw none at e in
    let stands : stands_for_none ais (record { code = code; value = serial }) ≡ true = none_stands (find (has_code code) ais) serial f in
    rw (none, stands) refl
own_element ais parts code serial identity (one pair is own fails) e =
    let f : pair_with (pair ∷ []) code ≡ Some pair = rw own (rw (same_bytes code) refl) in
    let g : Some pair.value ≡ Some serial = rw (is, f) at e in
    let value : pair.value ≡ serial = cc in
    let equal : pair ≡ record { code = code; value = serial } = same_pair pair code serial own value in
    let counts : stands_for_none ais (record { code = code; value = serial }) ≡ false = rw equal at fails in
    rw (is, counts, equal) refl
  where
    same_pair : (p : Pair) (c v : List ℕ) → p.code ≡ c → p.value ≡ v → p ≡ record { code = c; value = v }
    same_pair p c v a b = rw (← a, ← b) refl

-- ---- the tail

open_tail : (form : KeyForm) (more others : Bool) → (is_none (tail_of form) && more && others) ≡ true → is_some (tail_of form) ≡ true → ⊥
open_tail form more others h some = by (tail_of form) (and_left (is_none (tail_of form)) more (and_left (is_none (tail_of form) && more) others h)) some
  where
    by : (tail : Option Room) → is_none tail ≡ true → is_some tail ≡ true → ⊥
    by None a b = let e : false ≡ true = b in cc
    by (Some most) a b = let e : false ≡ true = a in cc

not_both : (tail : Option Room) → is_none tail ≡ true → is_some tail ≡ true → ⊥
not_both None a b = let e : false ≡ true = b in cc
not_both (Some most) a b = let e : false ≡ true = a in cc

full : (text serial : List ℕ) → unless_empty text ≡ Some serial → serial ≡ text
full [] serial e = absurd (let f : None ≡ Some serial = e in cc)
full (c ∷ text) serial e = let same : c ∷ text ≡ serial = cc in sym same

pub is_tail : (ais : List AiRow) (row : AiRow) (form : KeyForm) (parts : List Part) (at : SerialAt) (serial : List ℕ) (identity : Elements)
    → is_serial_of ais row form at ≡ true → serial_in ais parts at identity ≡ Some serial
    → IsTail form (tail_of_key at serial) (tail_in parts identity.key.value)
is_tail ais row form parts Nowhere serial identity rule e = record { some = λ some. absurd (not_both (tail_of form) rule some); none = λ none. refl }
is_tail ais row form parts Tail serial identity rule e = record { some = λ some. full (tail_in parts identity.key.value) serial e; none = λ none. absurd (not_both (tail_of form) none rule) }
is_tail ais row form parts (Ai code) serial identity rule e = record { some = λ some. absurd (open_tail form (list_any (bytes_eq code) row.qualifiers) (is_characters ais code) rule some); none = λ none. refl }
