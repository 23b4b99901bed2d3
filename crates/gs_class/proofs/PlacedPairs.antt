-- The places of the pairs of an identity of the table: the listed codes are only among its qualifiers.
use Rattle.std.proofs.Common.{◌≡◌, ℕ, zero, suc, ◌||◌, not, Bool, true, false, List, [], ◌∷◌, ◌++◌, filter, Some, None, bytes_eq, find, is_some, slice_get, refl, sym, ap, subst, ◌∙◌, inl, inr, true≢false}
use Rattle.std.specs.List.{filter_map, list_any}
use Rattle.gs_chars.proofs.TruthsAndLists.{equal_bytes, same_bytes, true_or_false, or_true}
use Rattle.gs_ai.specs.declared.pair.Pair.{Pair}
use Rattle.gs_ai.specs.declared.row.AiRow.{AiRow}
use Rattle.gs_ai.specs.Values.{has_code}
use Rattle.gs_ident.specs.Elements.{Elements, pairs_of}
use Rattle.gs_ident.specs.Identities.{IsMadeWith, ascending, counted, elements_of, is_other, listed, pair_with}
use Rattle.gs_ident.proofs.CodeOrder.{own_ascending}
use Rattle.gs_ident.proofs.IdentityLemmas.{made_facts}
use Rattle.gs_ident.proofs.KeyPairs.{found_place}
use Rattle.gs_ident.proofs.PairLemmas.{find_by_cases, found_passes}
use Rattle.gs_class.specs.Written.{others_of}
use Rattle.gs_epc.proofs.LaidSets.{found_kept}
use Rattle.std.proofs.lemmas.Bool.{and_parts, not-true}

-- the pair that is found by the first code, or one after it
code_here : (code : List ℕ) (codes : List (List ℕ)) (first pair : Pair) (others : List Pair) (j : ℕ) → bytes_eq code first.code ≡ true
    → slice_get (first ∷ others) j ≡ Some pair
    → ((k : ℕ) → slice_get others k ≡ Some pair → list_any (bytes_eq pair.code) codes ≡ true) → list_any (bytes_eq pair.code) (code ∷ codes) ≡ true
code_here code codes first pair others zero passes at rest =
    let same : first ≡ pair = cc in
    let code_is : code ≡ pair.code = equal_bytes code first.code passes ∙ ap (λ (p : Pair). p.code) same in
    rw (code_is, same_bytes pair.code) refl
code_here code codes first pair others (suc j) passes at rest = or_true (bytes_eq pair.code code) (list_any (bytes_eq pair.code) codes) (rest j at)

-- a pair that is found by one of the codes has a listed code
listed_code : (pairs : List Pair) (codes : List (List ℕ)) (j : ℕ) (pair : Pair)
    → slice_get (filter_map (pair_with pairs) codes) j ≡ Some pair → list_any (bytes_eq pair.code) codes ≡ true
listed_code pairs [] j pair at = absurd (let e : None ≡ Some pair = at in cc)
listed_code pairs (code ∷ codes) j pair at = elim (find_by_cases (λ (p : Pair). bytes_eq code p.code) pairs) [
  | inl found ↦
      let here : pair_with pairs code ≡ Some found.0 = found.1 in
      let list : slice_get (found.0 ∷ filter_map (pair_with pairs) codes) j ≡ Some pair = rw here at at in
      code_here code codes found.0 pair (filter_map (pair_with pairs) codes) j
      (found_passes (λ (p : Pair). bytes_eq code p.code) pairs found.0 found.1) list (λ k there. listed_code pairs codes k pair there)
  | inr none ↦
      let here : pair_with pairs code ≡ None = none in
      or_true (bytes_eq pair.code code) (list_any (bytes_eq pair.code) codes) (listed_code pairs codes j pair (rw here at at))
]

-- the qualifiers of an identity of the table have listed codes, and its attributes have none of these
pub record ArePlaced (ais : List AiRow) (identity : Elements) (codes : List (List ℕ)) : Type 0 where
  pub qualified : (j : ℕ) (pair : Pair) → slice_get identity.qualifiers j ≡ Some pair → list_any (bytes_eq pair.code) codes ≡ true
  pub other : (j : ℕ) (pair : Pair) → slice_get identity.attributes j ≡ Some pair → is_other codes identity.key pair ≡ true

pub are_placed : (ais : List AiRow) (identity : Elements) (row : AiRow) → IsMadeWith ais identity
    → find (has_code identity.key.code) ais ≡ Some row → ArePlaced ais identity row.qualifiers
unfolding elements_of
are_placed ais identity row made found =
    let pairs = counted ais (pairs_of identity) in
    let facts = made_facts ais pairs identity made.given_back in
    let key : identity.key ≡ facts.key = ap (λ (e : Elements). e.key) facts.elements in
    let row_is : find (has_code facts.key.code) ais ≡ Some row = rw key at found in
    let lists : listed ais facts.key ≡ row.qualifiers = rw row_is refl in
    let qualifiers : identity.qualifiers ≡ filter_map (pair_with pairs) row.qualifiers = ap (λ (e : Elements). e.qualifiers) facts.elements ∙ ap (filter_map (pair_with pairs)) lists in
    let attributes : identity.attributes ≡ ascending (filter (is_other row.qualifiers identity.key) pairs) =
    ap (λ (e : Elements). e.attributes) facts.elements ∙ ap (λ (codes : List (List ℕ)). ascending (filter (is_other codes facts.key) pairs)) lists ∙ ap (λ (k : Pair). ascending (filter (is_other row.qualifiers k) pairs)) (sym key) in
    record {
      qualified = λ j pair at. listed_code pairs row.qualifiers j pair (rw qualifiers at at);
      other = λ j pair at. found_kept (is_other row.qualifiers identity.key) (λ (p : Pair). bytes_eq pair.code p.code) pairs pair
          (own_ascending (filter (is_other row.qualifiers identity.key) pairs) j pair (rw attributes at at));
    }

-- ---- the pair of a listed code

found_behind : (p : Pair → Bool) (pairs others : List Pair) → find p pairs ≡ None → find p (pairs ++ others) ≡ find p others
found_behind p [] others h = refl
found_behind p (first ∷ pairs) others h = elim (true_or_false (p first)) [
  | inl passes ↦ absurd (let e : Some first ≡ None = rw passes at h in cc)
  | inr fails ↦ rw fails (found_behind p pairs others (rw fails at h))
]

-- a pair of a listed code is among the qualifiers
pub qualified_pair : (ais : List AiRow) (identity : Elements) (row : AiRow) (code : List ℕ) → IsMadeWith ais identity
    → find (has_code identity.key.code) ais ≡ Some row → list_any (bytes_eq code) row.qualifiers ≡ true
    → is_some (pair_with (others_of identity) code) ≡ true
    → (pair : Pair) × (pair_with identity.qualifiers code ≡ Some pair)
qualified_pair ais identity row code made found lists some = elim (find_by_cases (λ (p : Pair). bytes_eq code p.code) identity.qualifiers) [
  | inl own ↦ own
  | inr none ↦
      let behind : pair_with (others_of identity) code ≡ pair_with identity.attributes code = found_behind (λ (p : Pair). bytes_eq code p.code) identity.qualifiers identity.attributes none in
      absurd (no_attribute (rw behind at some))
]
  where
    no_attribute : is_some (pair_with identity.attributes code) ≡ true → ⊥
    no_attribute there = elim (find_by_cases (λ (p : Pair). bytes_eq code p.code) identity.attributes) [
      | inl pair ↦
          let place = found_place (λ (p : Pair). bytes_eq code p.code) identity.attributes pair.0 pair.1 in
          let placed = are_placed ais identity row made found in
          let apart = and_parts (not (bytes_eq identity.key.code pair.0.code)) (not (list_any (bytes_eq pair.0.code) row.qualifiers)) (placed.other place.0 pair.0 place.1) in
          let code_is : code ≡ pair.0.code = equal_bytes code pair.0.code (found_passes (λ (p : Pair). bytes_eq code p.code) identity.attributes pair.0 pair.1) in
          true≢false (sym (subst (λ (c : List ℕ). list_any (bytes_eq c) row.qualifiers ≡ true) code_is lists) ∙ not-true (list_any (bytes_eq pair.0.code) row.qualifiers) apart.1)
      | inr none ↦
          let here : pair_with identity.attributes code ≡ None = none in
          let e : false ≡ true = rw here at there in
          cc
    ]
