-- An identity that keeps only its key, with one qualifier or none, is made with the table too.
use Rattle.std.proofs.Common.{◌≡◌, ◌⊎◌, true, false, List, [], ◌∷◌, ◌++◌, Some, None, Ok, bytes_eq, filter, find, not, refl, sym, ap, subst, ◌∙◌, inl, inr, ℕ}
use Rattle.std.specs.List.{filter_map, list_any}
use Rattle.std.proofs.lemmas.List.Elements.{All-cons, All-filter, All-head, All-nil, filter_passes}
use Rattle.gs_ai.specs.declared.pair.Pair.{Pair}
use Rattle.gs_ai.specs.declared.row.AiRow.{AiRow}
use Rattle.gs_ai.specs.Tables.{KeepsRules, are_distinct, is_key, is_key_of}
use Rattle.gs_ai.specs.Values.{has_code}
use Rattle.gs_ai.proofs.RowLemmas.{and_left, and_right}
use Rattle.gs_ai.proofs.TableLemmas.{key_by_row}
use Rattle.gs_chars.proofs.TruthsAndLists.{equal_bytes, same_bytes, true_or_false}
use Rattle.gs_tables_document.specs.declared.document.SerialAt.{SerialAt}
use Rattle.gs_tables_document.specs.declared.document.SerialAt.TheVariants.{Nowhere, Tail, Ai}
use Rattle.gs_ident.proofs.KeyPairs.{IsKeyPair, alone_made, both_made, is_key_pair}
use Rattle.gs_ident.specs.Elements.{Elements, is_coded, key_alone, pairs_of, with_qualifier}
use Rattle.gs_ident.specs.Identities.{IsInOrder, IsMadeWith, counted, elements_of, identity_of_pairs, listed, pair_with, stands_for_none}
use Rattle.gs_ident.proofs.IdentityLemmas.{Made, made_facts, made_with}
use Rattle.gs_translate.specs.Targets.{key_and_serial}
use Rattle.gs_ident.proofs.PairLemmas.{Each, each_from_all, find_by_cases, found_each, found_passes}
use Rattle.std.proofs.lemmas.Bool.{not-true}

-- ---- the rest after a filter of pairs with distinct codes

-- the pairs of the code are one pair of the list, whose code is listed, or none
abbrev IsOneOf : List Pair → List (List ℕ) → List Pair → Type 0
IsOneOf pairs codes left = (left ≡ []) ⊎ ((serial : Pair) × (left ≡ serial ∷ []) × (list_any (bytes_eq serial.code) codes ≡ true) × (pair_with pairs serial.code ≡ Some serial))

none_left : (pairs : List Pair) (code : List ℕ) (codes : List (List ℕ)) → list_any (bytes_eq code) codes ≡ false
    → filter (is_coded code) (filter_map (pair_with pairs) codes) ≡ []
none_left pairs code [] none = refl
none_left pairs code (first ∷ codes) none = elim (find_by_cases (λ (pair : Pair). bytes_eq first pair.code) pairs) as
    (λ _. filter (is_coded code) (filter_map (pair_with pairs) (first ∷ codes)) ≡ []) [
      | inl found ↦
          let same = equal_bytes first found.0.code (found_passes (λ (pair : Pair). bytes_eq first pair.code) pairs found.0 found.1) in
          let differs : bytes_eq code first ≡ false = elim (true_or_false (bytes_eq code first)) as (λ _. bytes_eq code first ≡ false) [
            | inl t ↦ absurd (let e = rw t at none in cc)
            | inr f ↦ f
          ] in
          let other : bytes_eq code found.0.code ≡ false = rw (← same) differs in
          let rest : list_any (bytes_eq code) codes ≡ false = rw differs at none in
          rw (found.1, other) (none_left pairs code codes rest)
      | inr absent ↦
          let rest : list_any (bytes_eq code) codes ≡ false = elim (true_or_false (bytes_eq code first)) as (λ _. list_any (bytes_eq code) codes ≡ false) [
            | inl t ↦ absurd (let e = rw t at none in cc)
            | inr f ↦ rw f at none
          ] in
          rw absent (none_left pairs code codes rest)
    ]

one_left : (pairs : List Pair) (code : List ℕ) (codes : List (List ℕ)) → are_distinct codes ≡ true
    → IsOneOf pairs codes (filter (is_coded code) (filter_map (pair_with pairs) codes))
one_left pairs code [] distinct = inl refl
one_left pairs code (first ∷ codes) distinct =
    elim (true_or_false (bytes_eq code first)) as (λ _. IsOneOf pairs (first ∷ codes) (filter (is_coded code) (filter_map (pair_with pairs) (first ∷ codes)))) [
      | inl same ↦ here (equal_bytes code first same) (find_by_cases (λ (pair : Pair). bytes_eq first pair.code) pairs)
      | inr differs ↦ later differs (find_by_cases (λ (pair : Pair). bytes_eq first pair.code) pairs) (one_left pairs code codes (and_right _ _ distinct))
    ]
  where
    once : list_any (bytes_eq first) codes ≡ false
    once = not-true (list_any (bytes_eq first) codes) (and_left _ _ distinct)

    here : code ≡ first → ((x : Pair) × (pair_with pairs first ≡ Some x)) ⊎ (pair_with pairs first ≡ None)
        → IsOneOf pairs (first ∷ codes) (filter (is_coded code) (filter_map (pair_with pairs) (first ∷ codes)))
    here is (inl found) =
        let named = equal_bytes first found.0.code (found_passes (λ (pair : Pair). bytes_eq first pair.code) pairs found.0 found.1) in
        let none : filter (is_coded first) (filter_map (pair_with pairs) codes) ≡ [] = none_left pairs first codes once in
        let passes : bytes_eq first found.0.code ≡ true = rw (← named) (same_bytes first) in
        let left : filter (is_coded first) (filter_map (pair_with pairs) (first ∷ codes)) ≡ found.0 ∷ [] = rw (found.1, passes, none) refl in
        let there : list_any (bytes_eq found.0.code) (first ∷ codes) ≡ true = rw (← named, same_bytes first) refl in
        let own : pair_with pairs found.0.code ≡ Some found.0 = subst (λ (c : List ℕ). pair_with pairs c ≡ Some found.0) named found.1 in
        inr (found.0, rw is left, there, own)
    here is (inr absent) =
        let none : filter (is_coded first) (filter_map (pair_with pairs) codes) ≡ [] = none_left pairs first codes once in
        inl (rw is (let e : filter (is_coded first) (filter_map (pair_with pairs) (first ∷ codes)) ≡ [] = rw absent none in e))

    more : (left : List Pair) → IsOneOf pairs codes left → IsOneOf pairs (first ∷ codes) left
    more left (inl none) = inl none
    more left (inr one) = inr (
      one.0,
      one.1,
      (elim (true_or_false (bytes_eq one.0.code first)) as (λ _. list_any (bytes_eq one.0.code) (first ∷ codes) ≡ true) [
        | inl t ↦ rw t refl
        | inr f ↦ rw f one.2
      ]),
      one.3,
    )

    later : bytes_eq code first ≡ false → ((x : Pair) × (pair_with pairs first ≡ Some x)) ⊎ (pair_with pairs first ≡ None)
        → IsOneOf pairs codes (filter (is_coded code) (filter_map (pair_with pairs) codes))
        → IsOneOf pairs (first ∷ codes) (filter (is_coded code) (filter_map (pair_with pairs) (first ∷ codes)))
    later differs (inl found) one =
        let named = equal_bytes first found.0.code (found_passes (λ (pair : Pair). bytes_eq first pair.code) pairs found.0 found.1) in
        let other : bytes_eq code found.0.code ≡ false = rw (← named) differs in
        let same : filter (is_coded code) (filter_map (pair_with pairs) (first ∷ codes)) ≡ filter (is_coded code) (filter_map (pair_with pairs) codes) = rw (found.1, other) refl in
        rw same (more _ one)
    later differs (inr absent) one =
        let same : filter (is_coded code) (filter_map (pair_with pairs) (first ∷ codes)) ≡ filter (is_coded code) (filter_map (pair_with pairs) codes) = rw absent refl in
        rw same (more _ one)

-- ---- the key of an identity that was made with a table

no_row : (code : List ℕ) (rows : List AiRow) → find (has_code code) rows ≡ None → is_key_of rows code ≡ false
no_row code [] none = refl
no_row code (row ∷ rows) none = elim (true_or_false (has_code code row)) as (λ _. is_key_of (row ∷ rows) code ≡ false) [
  | inl t ↦ absurd (let e = rw t at none in let f : Some row ≡ None = e in cc)
  | inr f ↦ let e = rw f at none in rw f (no_row code rows e)
]

-- the key of the identity is one of the table, which lists these codes
record KeyRow (table : List AiRow) (key : Pair) : Type 0 where
  row : AiRow
  is : IsKeyPair table row.qualifiers key

key_row : (table : List AiRow) (key : Pair) → KeepsRules table → is_key_of table key.code ≡ true → KeyRow table key
key_row table key rules is_key' = by (find_by_cases (has_code key.code) table)
  where
    by : ((row : AiRow) × (find (has_code key.code) table ≡ Some row)) ⊎ (find (has_code key.code) table ≡ None) → KeyRow table key
    by (inl found) =
        let role : is_key found.0.role ≡ true = sym (key_by_row table rules key.code found.0 found.1) ∙ is_key' in
        record { row = found.0; is = is_key_pair table found.0 key rules found.1 role }
    by (inr absent) = absurd (let e : true ≡ false = sym is_key' ∙ no_row key.code table absent in cc)

module _ (table : List AiRow) (identity : Elements) (rules : KeepsRules table) (made : IsMadeWith table identity) where
  abbrev pairs : List Pair
  pairs = counted table (pairs_of identity)

  facts : Made table pairs identity
  facts = made_facts table pairs identity made.given_back

  key_is : identity.key ≡ facts.key
  unfolding elements_of
  key_is = ap (λ (e : Elements). e.key) facts.elements

  qualifiers_are : identity.qualifiers ≡ filter_map (pair_with pairs) (listed table facts.key)
  unfolding elements_of
  qualifiers_are = ap (λ (e : Elements). e.qualifiers) facts.elements

  own_row : KeyRow table facts.key
  own_row = key_row table facts.key rules (found_passes (λ (pair : Pair). is_key_of table pair.code) pairs facts.key facts.first)

  key_in_order : IsInOrder table facts.key
  key_in_order = subst (λ (key : Pair). IsInOrder table key) key_is
      (All-head (IsInOrder table) identity.key (identity.qualifiers ++ identity.attributes) made.in_order)

  pub alone_is_made : IsMadeWith table (key_alone identity)
  alone_is_made =
      let made_of : identity_of_pairs table (facts.key ∷ []) ≡ Ok (record { key = facts.key; qualifiers = []; attributes = [] }) = alone_made table own_row.row.qualifiers facts.key own_row.is in
      let is = made_with table (facts.key ∷ []) (record { key = facts.key; qualifiers = []; attributes = [] }) (All-cons (IsInOrder table) facts.key [] key_in_order (All-nil (IsInOrder table))) made_of in
      subst (λ (key : Pair). IsMadeWith table (record { key = key; qualifiers = []; attributes = [] })) (sym key_is) is

  each_counts : Each (λ pair. not (stands_for_none table pair) ≡ true) pairs
  each_counts = each_from_all (λ pair. not (stands_for_none table pair) ≡ true) pairs
      (filter_passes (λ pair. not (stands_for_none table pair)) (pairs_of identity))

  each_in_order : Each (IsInOrder table) (pairs_of identity)
  each_in_order = each_from_all (IsInOrder table) (pairs_of identity) made.in_order

  -- the key with a pair of the identity that is listed
  both_are_made : (serial : Pair) → IsInOrder table serial → stands_for_none table serial ≡ false → list_any
      (bytes_eq serial.code) own_row.row.qualifiers ≡ true → IsMadeWith table
      (record { key = facts.key; qualifiers = serial ∷ []; attributes = [] })
  both_are_made serial in_order counts there =
      let alone : counted table (serial ∷ []) ≡ serial ∷ [] = rw counts refl in
      let made_of : identity_of_pairs table (facts.key ∷ serial ∷ []) ≡ Ok (record { key = facts.key; qualifiers = serial ∷ []; attributes = [] }) =
      both_made table own_row.row.qualifiers facts.key own_row.is serial there ∙ ap
      (λ (q : List Pair). Ok (record { key = facts.key; qualifiers = q; attributes = [] })) alone in
      made_with table (facts.key ∷ serial ∷ []) (record { key = facts.key; qualifiers = serial ∷ []; attributes = [] })
      (All-cons (IsInOrder table) facts.key (serial ∷ []) key_in_order (All-cons (IsInOrder table) serial [] in_order (All-nil (IsInOrder table)))) made_of

  -- the key with the pairs that the list of its codes leaves
  one_is_made : (left : List Pair) → IsOneOf pairs own_row.row.qualifiers left → IsMadeWith table
      (record { key = facts.key; qualifiers = left; attributes = [] })
  one_is_made left (inl none) = rw none (subst (λ (key : Pair). IsMadeWith table (record { key = key; qualifiers = []; attributes = [] })) key_is alone_is_made)
  one_is_made left (inr one) =
      let serial = one.0 in
      let counts : not (stands_for_none table serial) ≡ true = found_each (λ pair. not (stands_for_none table pair) ≡ true) (λ (pair : Pair). bytes_eq serial.code pair.code) pairs serial one.3 each_counts in
      let in_order : IsInOrder table serial = found_each (IsInOrder table) (λ (pair : Pair). bytes_eq serial.code pair.code) pairs serial one.3 (each_from_all (IsInOrder table) pairs (All-filter (λ pair. not (stands_for_none table pair)) (IsInOrder table) (pairs_of identity) made.in_order)) in
      rw one.1 (both_are_made serial in_order (not-true (stands_for_none table serial) counts) one.2)

  pub one_qualifier_is_made : (code : List ℕ) → IsMadeWith table (with_qualifier code identity)
  one_qualifier_is_made code =
      let codes = own_row.row.qualifiers in
      let left = filter (is_coded code) (filter_map (pair_with pairs) codes) in
      let left_is : filter (is_coded code) identity.qualifiers ≡ left = ap (filter (is_coded code)) (qualifiers_are ∙ ap (λ (list : List (List ℕ)). filter_map (pair_with pairs) list) own_row.is.lists) in
      let is = one_is_made left (one_left pairs code codes own_row.is.distinct) in
      let own = subst (λ (key : Pair). IsMadeWith table (record { key = key; qualifiers = left; attributes = [] })) (sym key_is) is in
      subst (λ (q : List Pair). IsMadeWith table (record { key = identity.key; qualifiers = q; attributes = [] })) (sym left_is) own

  pub serial_is_made : (serial : SerialAt) → IsMadeWith table (key_and_serial serial identity)
  serial_is_made (Ai code) = one_qualifier_is_made code
  serial_is_made Nowhere = alone_is_made
  serial_is_made Tail = alone_is_made
