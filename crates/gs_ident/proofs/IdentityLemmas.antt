-- The identity of pairs, and the identity of its pairs.
use Rattle.std.proofs.Common.{◌≡◌, ℕ, suc, ◌+◌, Bool, true, false, not, ◌&&◌, List, ◌∷◌, ◌++◌, take, filter, Option, Some, None, Ok, Err, slice_get, bytes_eq, All, refl, sym, ap, ◌∙◌, inl, inr, true≢false, zero-add, subst}
use Rattle.std.specs.List.{filter_map, list_any}
use Rattle.std.proofs.lemmas.List.Elements.{All-filter, filter_passes}
use Rattle.gs_ai.specs.declared.pair.Pair.{Pair}
use Rattle.gs_ai.specs.declared.row.AiRow.{AiRow}
use Rattle.gs_ai.specs.Tables.{is_key_of}
use Rattle.gs_chars.proofs.TruthsAndLists.{equal_bytes, same_bytes, get_of_take}
use Rattle.gs_ident.specs.declared.errors.IdentFault.TheVariants.{Repeat, NoKey, TwoKeys}
use Rattle.gs_ident.specs.Elements.{Elements, pairs_of}
use Rattle.gs_ident.specs.Identities.{pair_with, stands_for_none, counted, contradicts, contradiction, first_key, other_key, listed, is_other, ascending, elements_of, by_contradiction, by_key, by_other_key, identity_of_counted, identity_of_pairs, IsInOrder, IsMadeWith}
use Rattle.gs_ident.proofs.CodeOrder.{own_ascending, own_by_code, pair_with_filter, place_ascending, same_ascending}
use Rattle.gs_ident.proofs.PairLemmas.{two_ways, is_contradiction, Each, each_append, each_cons, each_filter_map, each_from_all, all_from_each, found_passes, found_each, found_sharper, not_found, find_nothing, find_by_cases, place_of_code, place_right, place_left, same_filter_map, filter_all, place_absent}
use Rattle.gs_chars.proofs.Searches.{none_any}

-- ---- the answers

module _ (table : List AiRow) (pairs : List Pair) where
  pub repeat_answer : (pair : Pair) (code : List ℕ) → Some pair ≡ contradiction pairs → code ≡ pair.code → identity_of_counted table pairs ≡ Err (Repeat code)
  unfolding identity_of_counted
  repeat_answer pair code e f = rw (← e, f) refl

  pub no_key_answer : None ≡ contradiction pairs → None ≡ first_key table pairs → identity_of_counted table pairs ≡ Err NoKey
  unfolding identity_of_counted
  no_key_answer e f = let g = sym e in let h = sym f in ap (by_contradiction table pairs) g ∙ ap (by_key table pairs) h

  pub two_keys_answer : (key other : Pair) (code : List ℕ) → None ≡ contradiction pairs → Some key ≡ first_key table pairs
      → Some other ≡ other_key table pairs key → code ≡ other.code → identity_of_counted table pairs ≡ Err (TwoKeys code)
  unfolding identity_of_counted
  two_keys_answer key other code e f g h = ap (by_contradiction table pairs) (sym e) ∙ ap (by_key table pairs) (sym f) ∙ ap
      (by_other_key table pairs key) (sym g) ∙ ap (λ (c : List ℕ). Err (TwoKeys c)) (sym h)

  pub made_answer : (key : Pair) → None ≡ contradiction pairs → Some key ≡ first_key table pairs → None ≡ other_key table pairs key
      → identity_of_counted table pairs ≡ Ok (elements_of table pairs key)
  unfolding identity_of_counted
  made_answer key e f g = ap (by_contradiction table pairs) (sym e) ∙ ap (by_key table pairs) (sym f) ∙ ap (by_other_key table pairs key) (sym g)

-- ---- an identity that was made

pub record Made (table : List AiRow) (pairs : List Pair) (identity : Elements) : Type 0 where
  pub key : Pair
  pub first : first_key table pairs ≡ Some key
  pub only : other_key table pairs key ≡ None
  pub elements : identity ≡ elements_of table pairs key

made_by_other : (table : List AiRow) (pairs : List Pair) (identity : Elements) (key : Pair) (r : Option Pair)
    → other_key table pairs key ≡ r → first_key table pairs ≡ Some key → by_other_key table pairs key r ≡ Ok identity
    → Made table pairs identity
made_by_other table pairs identity key (Some other) o f e = absurd (let g : Err (TwoKeys other.code) ≡ Ok identity = e in cc)
made_by_other table pairs identity key None o f e = record { key = key; first = f; only = o; elements = let g : Ok (elements_of table pairs key) ≡ Ok identity = e in cc }

made_by_key : (table : List AiRow) (pairs : List Pair) (identity : Elements) (r : Option Pair) → first_key table pairs ≡ r
    → by_key table pairs r ≡ Ok identity → Made table pairs identity
made_by_key table pairs identity None f e = absurd (let g : Err NoKey ≡ Ok identity = e in cc)
made_by_key table pairs identity (Some key) f e = made_by_other table pairs identity key (other_key table pairs key) refl f e

made_by : (table : List AiRow) (pairs : List Pair) (identity : Elements) (r : Option Pair) → by_contradiction table pairs r ≡ Ok identity
    → Made table pairs identity
made_by table pairs identity (Some pair) e = absurd (let g : Err (Repeat pair.code) ≡ Ok identity = e in cc)
made_by table pairs identity None e = made_by_key table pairs identity (first_key table pairs) refl e

pub made_facts : (table : List AiRow) (pairs : List Pair) (identity : Elements) → identity_of_counted table pairs ≡ Ok identity → Made table pairs identity
unfolding identity_of_counted
made_facts table pairs identity e = made_by table pairs identity (contradiction pairs) e

-- ---- the pairs of such an identity are the first with their codes

-- the pair is the first with its code
abbrev IsOwn : List Pair → Pair → Type 0
IsOwn pairs pair = pair_with pairs pair.code ≡ Some pair

own_key : (table : List AiRow) (pairs : List Pair) (key : Pair) → first_key table pairs ≡ Some key → IsOwn pairs key
own_key table pairs key e =
    let is_key = found_passes (λ pair. is_key_of table pair.code) pairs key e in
    found_sharper (λ pair. bytes_eq key.code pair.code) (λ pair. is_key_of table pair.code) pairs key e
    (λ pair same. let f = equal_bytes key.code pair.code same in rw (← f) is_key) (same_bytes key.code)

-- the first with its code among the pairs whose codes pass a test
own_other : (t : List ℕ → Bool) (pairs : List Pair) (pair : Pair) → pair_with (filter (λ p. t p.code) pairs) pair.code ≡ Some pair → IsOwn pairs pair
own_other t pairs pair e = elim (two_ways (t pair.code)) [
  | inl h ↦ let f = sym (pair_with_filter t pair.code pairs) ∙ e in rw h at f
  | inr h ↦ let f = sym (pair_with_filter t pair.code pairs) ∙ e in let g = rw h at f in absurd (let n : None ≡ Some pair = g in cc)
]

module _ (table : List AiRow) (pairs : List Pair) (key : Pair) (first : first_key table pairs ≡ Some key) (only : other_key table pairs key ≡ None) where
  abbrev qualified : List Pair
  qualified = filter_map (pair_with pairs) (listed table key)

  -- the code is neither the key's nor listed
  abbrev other : List ℕ → Bool
  other code = not (bytes_eq key.code code) && not (list_any (bytes_eq code) (listed table key))

  abbrev others : List Pair
  others = ascending (filter (is_other (listed table key) key) pairs)

  abbrev out : List Pair
  out = key ∷ (qualified ++ others)

  pub out_own : Each (IsOwn pairs) out
  out_own = each_cons (IsOwn pairs) key (qualified ++ others) (own_key table pairs key first) (each_append (IsOwn pairs) qualified others
      (each_filter_map (IsOwn pairs) (pair_with pairs) (listed table key) (own_by_code pairs))
      (λ j pair at. own_other other pairs pair (own_ascending (filter (is_other (listed table key) key) pairs) j pair at)))

  -- a fact of each pair holds for those of the identity
  pub out_each : (P : Pair → Type 0) → Each P pairs → Each P out
  out_each P a j pair at = found_each P (λ other. bytes_eq pair.code other.code) pairs pair (out_own j pair at) a

  -- the look-up by a code gives the same, if the identity has the pair
  same_look_up : (code : List ℕ) → ((pair : Pair) → pair_with pairs code ≡ Some pair → (j : ℕ) × (slice_get out j ≡ Some pair))
      → pair_with out code ≡ pair_with pairs code
  same_look_up code there = elim (find_by_cases (λ pair. bytes_eq code pair.code) out) [
    | inl found ↦
        let own = found_each (IsOwn pairs) (λ pair. bytes_eq code pair.code) out found.0 found.1 out_own in
        let same = equal_bytes code found.0.code (found_passes (λ pair. bytes_eq code pair.code) out found.0 found.1) in
        found.1 ∙ sym (ap (λ (c : List ℕ). pair_with pairs c) same ∙ own)
    | inr none ↦ elim (find_by_cases (λ pair. bytes_eq code pair.code) pairs) [
      | inl found ↦
          let place = there found.0 found.1 in
          let differs = not_found (λ pair. bytes_eq code pair.code) out none place.0 found.0 place.1 in
          absurd (true≢false (sym (found_passes (λ pair. bytes_eq code pair.code) pairs found.0 found.1) ∙ differs))
      | inr absent ↦ none ∙ sym absent
    ]
  ]

  listed_again : Each (λ code. pair_with out code ≡ pair_with pairs code) (listed table key)
  listed_again i code at = same_look_up code (λ pair e.
      let place = place_of_code (pair_with pairs) (listed table key) i code pair at e in
      (suc place.0, place_left qualified others place.0 pair place.1))

  look_up_again : (code : List ℕ)
      → pair_with (filter (is_other (listed table key) key) out) code ≡ pair_with (filter (is_other (listed table key) key) pairs) code
  look_up_again code = pair_with_filter other code out ∙ elim (two_ways (other code)) [
    | inl h ↦ rw h (same_look_up code (λ pair e.
        let f = sym (pair_with_filter other code pairs) in
        let g = rw h at f in
        let place = place_ascending (filter (is_other (listed table key) key) pairs) code pair (sym g ∙ e) in
        let right = place_right qualified others place.0 pair place.1 in
        (suc right.0, right.1)))
    | inr h ↦ rw h refl
  ] ∙ sym (pair_with_filter other code pairs)

  others_again : ascending (filter (is_other (listed table key) key) out) ≡ others
  others_again = same_ascending (filter (is_other (listed table key) key) out) (filter (is_other (listed table key) key) pairs) look_up_again

  elements_again : elements_of table out key ≡ elements_of table pairs key
  unfolding elements_of
  elements_again =
      rw (same_filter_map (pair_with out) (pair_with pairs) (listed table key) listed_again, others_again) refl

  first_again : first_key table out ≡ Some key
  first_again = rw (found_passes (λ pair. is_key_of table pair.code) pairs key first) refl

  only_again : other_key table out key ≡ None
  only_again = find_nothing (λ pair. is_key_of table pair.code && not (bytes_eq key.code pair.code)) out
      (out_each (λ pair. (is_key_of table pair.code && not (bytes_eq key.code pair.code)) ≡ false) (not_found (λ pair. is_key_of table pair.code && not (bytes_eq key.code pair.code)) pairs only))

  agrees : (i : ℕ) (pair : Pair) → slice_get out i ≡ Some pair → contradicts (take i out) pair ≡ false
  agrees i pair at = none_any (λ other. bytes_eq other.code pair.code && not (bytes_eq other.value pair.value)) (take i out) (λ j other there.
      let before = get_of_take out i j other there in
      elim (two_ways (bytes_eq other.code pair.code)) [
        | inl h ↦
            let own = out_own i pair at in
            let own_too = out_own j other before.1 in
            let code = equal_bytes other.code pair.code h in
            let same : other ≡ pair = let e : Some other ≡ Some pair = sym own_too ∙ ap (λ (c : List ℕ). pair_with pairs c) code ∙ own in cc in
            let value : bytes_eq other.value pair.value ≡ true = rw same (same_bytes pair.value) in
            rw (h, value) refl
        | inr h ↦ rw h refl
      ])

  agrees_again : contradiction out ≡ None
  unfolding contradiction
  agrees_again = rw (place_absent (is_contradiction out) 0 out agrees_at) refl
    where
      agrees_at : (i : ℕ) (pair : Pair) → slice_get out i ≡ Some pair → contradicts (take (0 + i) out) pair ≡ false
      agrees_at i pair at = rw (zero-add i) (agrees i pair at)

  pub answer_again : identity_of_counted table out ≡ Ok (elements_of table pairs key)
  answer_again = made_answer table out key (sym agrees_again) (sym first_again) (sym only_again) ∙ ap (λ (e : Elements). Ok e) elements_again

-- ---- the table that an identity was made with

out_is : (table : List AiRow) (pairs : List Pair) (key : Pair)
    → pairs_of (elements_of table pairs key) ≡ key ∷ (filter_map (pair_with pairs) (listed table key) ++ ascending (filter (is_other (listed table key) key) pairs))
unfolding elements_of
out_is table pairs key = refl

pub made_with : (table : List AiRow) (given : List Pair) (identity : Elements) → All (IsInOrder table) given
    → identity_of_counted table (counted table given) ≡ Ok identity → IsMadeWith table identity
made_with table given identity valid e =
    let pairs = counted table given in
    let made = made_facts table pairs identity e in
    let shape = ap pairs_of made.elements ∙ out_is table pairs made.key in
    let keeps = each_from_all (λ pair. not (stands_for_none table pair) ≡ true) pairs (filter_passes (λ pair. not (stands_for_none table pair)) given) in
    let counts = filter_all (λ pair. not (stands_for_none table pair)) (out table pairs made.key made.first made.only) (out_each table pairs made.key made.first made.only (λ pair. not (stands_for_none table pair) ≡ true) keeps) in
    let again = answer_again table pairs made.key made.first made.only in
    let valid_here = each_from_all (IsInOrder table) pairs (All-filter (λ pair. not (stands_for_none table pair)) (IsInOrder table) given valid) in
    record {
      in_order = subst (λ (ps : List Pair). All (IsInOrder table) ps) (sym shape)
          (all_from_each (IsInOrder table) (out table pairs made.key made.first made.only) (out_each table pairs made.key made.first made.only (IsInOrder table) valid_here));
      given_back = subst (λ (ps : List Pair). identity_of_pairs table ps ≡ Ok identity) (sym shape)
          (ap (λ (ps : List Pair). identity_of_counted table ps) counts ∙ again ∙ ap (λ (e : Elements). Ok e) (sym made.elements));
    }
