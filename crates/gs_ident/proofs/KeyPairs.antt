-- The identity of a key, and of a key and one pair that its row lists.
use Rattle.std.proofs.Common.{◌≡◌, ℕ, ◌||◌, Bool, true, false, List, [], ◌∷◌, Option, Some, None, Ok, bytes_eq, find, slice_get, suc, refl, sym, ap, ◌∙◌, inl, inr, true≢false}
use Rattle.std.proofs.lemmas.List.Elements.{All-head}
use Rattle.std.specs.List.{filter_map, list_any}
use Rattle.gs_chars.proofs.TruthsAndLists.{equal_bytes, same_bytes, or_first, or_second}
use Rattle.gs_ai.specs.declared.pair.Pair.{Pair}
use Rattle.gs_ai.specs.declared.part.Role.{Role}
use Rattle.gs_ai.specs.declared.part.Role.TheVariants as role
use Rattle.gs_ai.specs.declared.row.AiRow.{AiRow}
use Rattle.gs_ai.specs.Tables.{KeepsRules, are_distinct, is_empty, is_key, is_key_of, is_row, keeps_role}
use Rattle.gs_ai.specs.Values.{has_code}
use Rattle.gs_ai.proofs.RowLemmas.{and_left, and_right}
use Rattle.gs_ai.proofs.TableLemmas.{key_by_row}
use Rattle.gs_ident.specs.Elements.{Elements}
use Rattle.gs_ident.specs.Identities.{IsMadeWith, contradiction, counted, elements_of, first_key, identity_of_counted, identity_of_pairs, listed, other_key, pair_with, stands_for_none}
use Rattle.gs_ident.proofs.CodeOrder.{none_ascending}
use Rattle.gs_ident.proofs.IdentityLemmas.{made_answer, made_with}
use Rattle.gs_chars.proofs.TruthsAndLists.{true_or_false}
use Rattle.gs_ident.specs.QualifiedKeys.{IsQualifiedKey, pairs_in}
use Rattle.gs_ident.proofs.MovedPairs.{row_distinct, differs as other_way}
use Rattle.std.proofs.lemmas.Bool.{not-true, false_from_ne_true}

-- ---- codes in a list

-- a code that passes the test is not in a list without passing codes
pub absent : (p : List ℕ → Bool) (code : List ℕ) (codes : List (List ℕ)) → p code ≡ true → list_any p codes ≡ false → list_any (bytes_eq code) codes ≡ false
absent p code [] passes none = refl
absent p code (other ∷ codes) passes none =
    let differs : bytes_eq code other ≡ false = false_from_ne_true (bytes_eq code other) (λ same.
    let e = equal_bytes code other same in
    true≢false (sym passes ∙ ap p e ∙ or_first (p other) (list_any p codes) none)) in
    rw differs (absent p code codes passes (or_second (p other) (list_any p codes) none))

-- a code in a list without passing codes does not pass
fails : (p : List ℕ → Bool) (code : List ℕ) (codes : List (List ℕ)) → list_any (bytes_eq code) codes ≡ true → list_any p codes ≡ false → p code ≡ false
fails p code codes there none = false_from_ne_true (p code) (λ passes. true≢false (sym there ∙ absent p code codes passes none))

-- ---- the pairs of a list of codes

-- no code of a list is the key's
none_of_key : (key : Pair) (codes : List (List ℕ)) → list_any (bytes_eq key.code) codes ≡ false → filter_map (pair_with (key ∷ [])) codes ≡ []
none_of_key key [] none = refl
none_of_key key (code ∷ codes) none =
    let differs = other_way key.code code (or_first _ _ none) in
    rw differs (none_of_key key codes (or_second (bytes_eq key.code code) (list_any (bytes_eq key.code) codes) none))

none_of_both : (key serial : Pair) (codes : List (List ℕ)) → list_any (bytes_eq key.code) codes ≡ false
    → list_any (bytes_eq serial.code) codes ≡ false → filter_map (pair_with (key ∷ serial ∷ [])) codes ≡ []
none_of_both key serial [] no_key no_serial = refl
none_of_both key serial (code ∷ codes) no_key no_serial =
    let first = other_way key.code code (or_first (bytes_eq key.code code) (list_any (bytes_eq key.code) codes) no_key) in
    let second = other_way serial.code code (or_first (bytes_eq serial.code code) (list_any (bytes_eq serial.code) codes) no_serial) in
    rw (first, second) (none_of_both key serial codes (or_second (bytes_eq key.code code) (list_any (bytes_eq key.code) codes) no_key) (or_second (bytes_eq serial.code code) (list_any (bytes_eq serial.code) codes) no_serial))

-- the serial's code is one of distinct codes, and the key's is not
serial_alone : (key serial : Pair) (codes : List (List ℕ)) → list_any (bytes_eq key.code) codes ≡ false → are_distinct codes ≡ true
    → list_any (bytes_eq serial.code) codes ≡ true → filter_map (pair_with (key ∷ serial ∷ [])) codes ≡ serial ∷ []
serial_alone key serial [] no_key distinct there = absurd (let e : false ≡ true = there in cc)
serial_alone key serial (code ∷ codes) no_key distinct there =
    let first = other_way key.code code (or_first (bytes_eq key.code code) (list_any (bytes_eq key.code) codes) no_key) in
    let later = or_second (bytes_eq key.code code) (list_any (bytes_eq key.code) codes) no_key in
    elim (true_or_false (bytes_eq serial.code code)) [
      | inl same ↦
          let e = equal_bytes serial.code code same in
          let once : list_any (bytes_eq serial.code) codes ≡ false = rw e (not-true (list_any (bytes_eq code) codes) (and_left _ _ distinct)) in
          let here : bytes_eq code serial.code ≡ true = rw e (same_bytes code) in
          rw (first, here, none_of_both key serial codes later once) refl
      | inr differs ↦
          let second = other_way serial.code code differs in
          let there' : list_any (bytes_eq serial.code) codes ≡ true = rw differs at there in
          rw (first, second) (serial_alone key serial codes later (and_right _ _ distinct) there')
    ]

-- ---- the identity of a key that is one of the table

-- the pair is that of a key that counts, and its row lists these codes
pub record IsKeyPair (table : List AiRow) (codes : List (List ℕ)) (key : Pair) : Type 0 where
  pub of_key : is_key_of table key.code ≡ true
  pub counts : stands_for_none table key ≡ false
  pub lists : listed table key ≡ codes
  pub distinct : are_distinct codes ≡ true
  pub no_key : list_any (is_key_of table) codes ≡ false

module _ (table : List AiRow) (codes : List (List ℕ)) (key : Pair) (is : IsKeyPair table codes key) where
  key_unlisted : list_any (bytes_eq key.code) codes ≡ false
  key_unlisted = absent (is_key_of table) key.code codes is.of_key is.no_key

  alone_elements : elements_of table (key ∷ []) key ≡ record { key = key; qualifiers = []; attributes = [] }
  unfolding elements_of
  alone_elements =
      rw (is.lists, none_of_key key codes key_unlisted, same_bytes key.code, none_ascending) refl

  alone_agrees : None ≡ contradiction (key ∷ [])
  unfolding contradiction
  alone_agrees = refl

  alone_first : Some key ≡ first_key table (key ∷ [])
  alone_first = rw is.of_key refl

  alone_only : None ≡ other_key table (key ∷ []) key
  alone_only = rw (is.of_key, same_bytes key.code) refl

  alone : identity_of_counted table (key ∷ []) ≡ Ok (record { key = key; qualifiers = []; attributes = [] })
  alone = made_answer table (key ∷ []) key alone_agrees alone_first alone_only ∙ ap (λ (e : Elements). Ok e) alone_elements

  module _ (serial : Pair) (there : list_any (bytes_eq serial.code) codes ≡ true) where
    serial_is_no_key : is_key_of table serial.code ≡ false
    serial_is_no_key = fails (is_key_of table) serial.code codes there is.no_key

    codes_differ : bytes_eq key.code serial.code ≡ false
    codes_differ = false_from_ne_true (bytes_eq key.code serial.code) (λ same.
        let e = equal_bytes key.code serial.code same in
        true≢false (sym is.of_key ∙ ap (is_key_of table) e ∙ serial_is_no_key))

    both_elements : elements_of table (key ∷ serial ∷ []) key ≡ record { key = key; qualifiers = serial ∷ []; attributes = [] }
    unfolding elements_of
    both_elements =
        rw (is.lists, serial_alone key serial codes key_unlisted is.distinct there, same_bytes key.code, codes_differ, there, none_ascending) refl

    both_agree : None ≡ contradiction (key ∷ serial ∷ [])
    unfolding contradiction
    both_agree = rw codes_differ refl

    both_first : Some key ≡ first_key table (key ∷ serial ∷ [])
    both_first = rw is.of_key refl

    both_only : None ≡ other_key table (key ∷ serial ∷ []) key
    both_only = rw (is.of_key, same_bytes key.code, serial_is_no_key) refl

    both : identity_of_counted table (key ∷ serial ∷ []) ≡ Ok (record { key = key; qualifiers = serial ∷ []; attributes = [] })
    both = made_answer table (key ∷ serial ∷ []) key both_agree both_first both_only ∙ ap (λ (e : Elements). Ok e) both_elements

    pub both_made : identity_of_pairs table (key ∷ serial ∷ []) ≡ Ok (record { key = key; qualifiers = counted table (serial ∷ []); attributes = [] })
    both_made = elim (true_or_false (stands_for_none table serial)) [
      | inl none ↦ rw (is.counts, none) alone
      | inr some ↦ rw (is.counts, some) both
    ]

  pub alone_made : identity_of_pairs table (key ∷ []) ≡ Ok (record { key = key; qualifiers = []; attributes = [] })
  alone_made = rw is.counts alone

-- ---- the pair of a key, by its row

pub found_place : {X : Type 0} (p : X → Bool) (xs : List X) (x : X) → find p xs ≡ Some x → (i : ℕ) × (slice_get xs i ≡ Some x)
found_place p [] x e = absurd (let f : None ≡ Some x = e in cc)
found_place p (y ∷ xs) x e = elim (true_or_false (p y)) [
  | inl passes ↦ (0, rw passes at e)
  | inr fails ↦ let rest = found_place p xs x (rw fails at e) in (suc rest.0, rest.1)
]

role_of_key : (r : Role) → is_key r ≡ true → r ≡ role.Key
role_of_key role.Key h = refl
role_of_key role.Qualifier h = absurd (let e : false ≡ true = h in cc)
role_of_key role.Attribute h = absurd (let e : false ≡ true = h in cc)
role_of_key role.Other h = absurd (let e : false ≡ true = h in cc)

row_role : (row : AiRow) → is_row row ≡ true → keeps_role row ≡ true
unfolding is_row
row_role row h = and_right _ _ (and_left _ _ (and_left _ _ (and_left _ _ h)))

no_none : (row : AiRow) → is_row row ≡ true → is_key row.role ≡ true → is_empty row.none ≡ true
no_none row in_order key = let e = role_of_key row.role key in rw e at (row_role row in_order)

pub is_key_pair : (ais : List AiRow) (row : AiRow) (key : Pair) → KeepsRules ais → find (has_code key.code) ais ≡ Some row
    → is_key row.role ≡ true → IsKeyPair ais row.qualifiers key
is_key_pair ais row key rules found role =
    let place = found_place (has_code key.code) ais row found in
    let in_order = (rules.rows_in_order place.0 row place.1).0 in
    record {
      of_key = key_by_row ais rules key.code row found ∙ role;
      counts = rw (found, no_none row in_order role) refl;
      lists = rw found refl;
      distinct = row_distinct row in_order;
      no_key = (rules.lists_qualifiers place.0 row place.1).1;
    }

-- ---- a key, and the one pair that qualifies it

qualified_made : (table : List AiRow) (key : Pair) (qualifier : Option Pair) → KeepsRules table → IsQualifiedKey table key qualifier
    → identity_of_pairs table (key ∷ pairs_in qualifier) ≡ Ok (record { key = key; qualifiers = counted table (pairs_in qualifier); attributes = [] })
qualified_made table key None rules is = alone_made table is.row.qualifiers key (is_key_pair table is.row key rules is.found is.role)
qualified_made table key (Some pair) rules is =
    both_made table is.row.qualifiers key (is_key_pair table is.row key rules is.found is.role) pair
    (All-head (λ (p : Pair). list_any (bytes_eq p.code) is.row.qualifiers ≡ true) pair [] is.lists)

module _ (table : List AiRow) (key : Pair) (qualifier : Option Pair) (rules : KeepsRules table) (is : IsQualifiedKey table key qualifier)
    (identity : Elements) (pairs : List Pair) (counts : pairs ≡ counted table (pairs_in qualifier))
    (e : identity ≡ record { key = key; qualifiers = pairs; attributes = [] }) where
  pub key_made : identity_of_pairs table (key ∷ pairs_in qualifier) ≡ Ok identity
  key_made = rw (e, counts) (qualified_made table key qualifier rules is)

  pub key_made_with : IsMadeWith table identity
  key_made_with = made_with table (key ∷ pairs_in qualifier) identity is.in_order key_made
