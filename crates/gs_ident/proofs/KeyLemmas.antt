-- The keys among pairs, with one pair more.
use Rattle.std.proofs.Common.{◌≡◌, ◌+◌, ◌<◌, ℕ, zero, suc, take, Bool, true, false, not, ◌&&◌, ◌||◌, List, [], ◌∷◌, ◌++◌, length, find, position, get_or, Option, Some, None, slice_get, refl, sym, ap, ◌∙◌, inl, inr, true≢false, bytes_eq, arith}
use Rattle.std.proofs.lemmas.List.{length-take-le, take_more}
use Rattle.std.specs.List.{list_any}
use Rattle.std.specs.Option.{is_some}
use Rattle.std.proofs.lemmas.List.Folds.{find-append, list_any-append}
use Rattle.gs_ai.specs.declared.pair.Pair.{Pair}
use Rattle.gs_ai.specs.declared.row.AiRow.{AiRow}
use Rattle.gs_ai.specs.Tables.{is_key_of, KeepsRules}
use Rattle.gs_ai.specs.Values.{has_code}
use Rattle.gs_ai.proofs.TableLemmas.{no_key}
use Rattle.gs_chars.proofs.TruthsAndLists.{equal_bytes, place_left, same_at, same_bytes}
use Rattle.gs_ident.specs.declared.maker.KeyPlace.{KeyPlace}
use Rattle.gs_ident.specs.declared.maker.Keys.{Keys}
use Rattle.gs_ident.specs.Identities.{counted, first_key, stands_for_none}
use Rattle.gs_ident.specs.Keys.{AreKeys, IsFirstKey, IsOtherKey, IsRowOf}
use Rattle.gs_ident.specs.KeysSupport.{is_none_text}
use Rattle.gs_ident.proofs.PairLemmas.{filter_all, find_by_cases, find_nothing, not_found}
use Rattle.gs_ident.proofs.MovedPairs.{any_at}
use Rattle.gs_chars.proofs.Searches.{find_none, find_read, position_some}
use Rattle.std.proofs.lemmas.Bool.{not_from_false, false_from_ne_true}

-- ---- one item more after a list

last_at : {X : Type 0} (xs : List X) (x : X) (n : ℕ) → length xs ≡ n → slice_get (xs ++ x ∷ []) n ≡ Some x
last_at [] x zero e = refl
last_at [] x (suc n) e = absurd (omega arith)
last_at (y ∷ xs) x zero e = absurd (omega arith)
last_at (y ∷ xs) x (suc n) e = last_at xs x n (omega arith)

found_more : {X : Type 0} (p : X → Bool) (xs : List X) (x y : X) → find p xs ≡ Some y → find p (xs ++ x ∷ []) ≡ Some y
found_more p xs x y e = find-append p xs (x ∷ []) ∙ rw e refl

found_last : {X : Type 0} (p : X → Bool) (xs : List X) (x : X) → find p xs ≡ None → p x ≡ true → find p (xs ++ x ∷ []) ≡ Some x
found_last p xs x e h = find-append p xs (x ∷ []) ∙ rw (e, h) refl

lacking_more : {X : Type 0} (p : X → Bool) (xs : List X) (x : X) → find p xs ≡ None → p x ≡ false → find p (xs ++ x ∷ []) ≡ None
lacking_more p xs x e h = find-append p xs (x ∷ []) ∙ rw (e, h) refl

-- ---- rows and codes

-- two pairs have one row if and only if they have one code
one_row : (table : List AiRow) (a b : Pair) (i j : ℕ) → IsRowOf table a i → IsRowOf table b j → i ≡ j → a.code ≡ b.code
one_row table a b i j at_a at_b same =
    let there = position_some (has_code a.code) table i at_a in
    let other = position_some (has_code b.code) table j at_b in
    let row = same_at table i j there.0 other.0 there.1 other.1 same in
    equal_bytes a.code there.0.code there.2 ∙ ap (λ (r : AiRow). r.code) row ∙ sym (equal_bytes b.code other.0.code other.2)

other_row : (table : List AiRow) (a b : Pair) (i j : ℕ) → IsRowOf table a i → IsRowOf table b j → (i ≡ j → ⊥) → bytes_eq a.code b.code ≡ false
other_row table a b i j at_a at_b apart = false_from_ne_true (bytes_eq a.code b.code) (λ h.
    let same = equal_bytes a.code b.code h in
    let e : Some i ≡ Some j = sym at_a ∙ ap (λ (code : List ℕ). position (has_code code) table) same ∙ at_b in
    apart (let f : i ≡ j = cc in f))

-- whether the value means none, by the row
pub by_row : (table : List AiRow) (pair : Pair) (i : ℕ) (row : AiRow) → IsRowOf table pair i → row ≡ get_or table i row
    → stands_for_none table pair ≡ is_none_text row pair.value
by_row table pair i row at read = let found = find_read (has_code pair.code) table i row at read in rw found refl

pub by_no_row : (table : List AiRow) (pair : Pair) → None ≡ position (has_code pair.code) table → stands_for_none table pair ≡ false
by_no_row table pair none = let lacks = find_none (has_code pair.code) table (sym none) in rw lacks refl

-- ---- whether there is a place

pub some_place : (b : Bool) (place : Option ℕ) → b ≡ is_some place → b ≡ true → (i : ℕ) × (place ≡ Some i)
some_place b None e t = absurd (true≢false (sym t ∙ e))
some_place b (Some i) e t = (i, refl)

pub no_place : (b : Bool) (place : Option ℕ) → b ≡ is_some place → b ≡ false → place ≡ None
no_place b None e f = refl
no_place b (Some i) e f = absurd (true≢false (sym e ∙ f))

-- ---- the parts of the keys with one pair more

module _ (table : List AiRow) (before : List Pair) (pair : Pair) where
  abbrev more : List Pair
  more = before ++ pair ∷ []

  abbrev of_key : Pair → Bool
  of_key p = is_key_of table p.code

  none_more : (b t : Bool) → b ≡ list_any (stands_for_none table) before → stands_for_none table pair ≡ t → (b || t) ≡ list_any (stands_for_none table) more
  none_more b t e s =
      let split = list_any-append (stands_for_none table) before (pair ∷ []) in
      let last : list_any (stands_for_none table) (pair ∷ []) ≡ t = rw s (or_nothing t) in
      rw (e, ← last) (sym split)
    where
      or_nothing : (c : Bool) → (c || false) ≡ c
      or_nothing true = refl
      or_nothing false = refl

  first_kept : (place : KeyPlace) → IsFirstKey table before (Some place) → IsFirstKey table more (Some place)
  first_kept place h = (h.0, place_left before (pair ∷ []) place.pair h.0 h.1, found_more of_key before pair h.0 h.2, h.3)

  first_stays : (place : Option KeyPlace) → of_key pair ≡ false → IsFirstKey table before place → IsFirstKey table more place
  first_stays None fails h = lacking_more of_key before pair h fails
  first_stays (Some place) fails h = first_kept place h

  abbrev of_other : Pair → Pair → Bool
  of_other key p = is_key_of table p.code && not (bytes_eq key.code p.code)

  other_stays : (key : Pair) (place : Option ℕ) → of_other key pair ≡ false → IsOtherKey table before key place → IsOtherKey table more key place
  other_stays key None fails h = lacking_more (of_other key) before pair h fails
  other_stays key (Some place) fails h = (h.0, place_left before (pair ∷ []) place h.0 h.1, found_more (of_other key) before pair h.0 h.2)

  other_kept : (key : Pair) (place : ℕ) → IsOtherKey table before key (Some place) → IsOtherKey table more key (Some place)
  other_kept key place h = (h.0, place_left before (pair ∷ []) place h.0 h.1, found_more (of_other key) before pair h.0 h.2)

  same_first : (k key : Pair) → first_key table before ≡ Some k → first_key table more ≡ Some key → k ≡ key
  same_first k key e f = let g : Some k ≡ Some key = sym (found_more of_key before pair k e) ∙ f in cc

  -- ---- all of them

  -- a pair of no key
  pub with_no_key : (keys : Keys) (t n : Bool) → of_key pair ≡ false → stands_for_none table pair ≡ t → n ≡ (keys.with_none || t)
      → AreKeys table before keys → AreKeys table more (record { with_none = n; first = keys.first; other = keys.other })
  with_no_key keys t n fails s e a = record {
    none = e ∙ none_more keys.with_none t a.none s;
    first = first_stays keys.first fails a.first;
    other = λ key f. elim (find_by_cases of_key before) [
      | inl k ↦
          let known : first_key table before ≡ Some key = k.1 ∙ ap (λ (p : Pair). Some p) (same_first k.0 key k.1 f) in
          let apart : of_other key pair ≡ false = rw fails refl in
          other_stays key keys.other apart (a.other key known)
      | inr none ↦ absurd (let g : None ≡ Some key = sym (lacking_more of_key before pair none fails) ∙ f in cc)
    ];
  }

  -- the first pair of a key
  pub with_first_key : (keys : Keys) (t n : Bool) (place row : ℕ) → keys.first ≡ None → of_key pair ≡ true → length before ≡ place
      → IsRowOf table pair row → stands_for_none table pair ≡ t → n ≡ (keys.with_none || t) → AreKeys table before keys → AreKeys table more
      (record { with_none = n; first = Some (record { pair = place; row = row }); other = None })
  with_first_key keys t n place row first is_key at of_row s e a =
      let lacks : IsFirstKey table before None = rw first at a.first in
      record {
        none = e ∙ none_more keys.with_none t a.none s;
        first = (pair, last_at before pair place at, found_last of_key before pair lacks is_key, of_row);
        other = λ key f.
            let known : Some pair ≡ Some key = sym (found_last of_key before pair lacks is_key) ∙ f in
            let same : pair ≡ key = cc in
            let own : of_other pair pair ≡ false = rw (is_key, same_bytes pair.code) refl in
            let nothing = find_nothing (of_other pair) before (λ j x there. let fails = not_found of_key before lacks j x there in rw fails refl) in
            rw (← same) (lacking_more (of_other pair) before pair nothing own);
      }

  -- a pair of the first key's code once more
  pub with_same_key : (keys : Keys) (first : KeyPlace) (t n : Bool) (row : ℕ) → keys.first ≡ Some first → first.row ≡ row
      → IsRowOf table pair row → stands_for_none table pair ≡ t → n ≡ (keys.with_none || t) → AreKeys table before keys → AreKeys table more
      (record { with_none = n; first = keys.first; other = keys.other })
  with_same_key keys first t n row is same of_row s e a =
      let known : IsFirstKey table before (Some first) = rw is at a.first in
      record {
        none = e ∙ none_more keys.with_none t a.none s;
        first = rw is (first_kept first known);
        other = λ key f.
            let key_is : known.0 ≡ key = same_first known.0 key known.2 f in
            let code : known.0.code ≡ pair.code = one_row table known.0 pair first.row row known.3 of_row same in
            let fails : of_other known.0 pair ≡ false = rw (code, same_bytes pair.code) (and_false (of_key pair)) in
            rw (← key_is) (other_stays known.0 keys.other fails (a.other known.0 known.2));
      }
    where
      and_false : (b : Bool) → (b && false) ≡ false
      and_false true = refl
      and_false false = refl

  -- a pair after that of another key
  pub with_known_keys : (keys : Keys) (first : KeyPlace) (place : ℕ) (t n : Bool) → keys.first ≡ Some first → keys.other ≡ Some place
      → stands_for_none table pair ≡ t → n ≡ (keys.with_none || t) → AreKeys table before keys → AreKeys table more
      (record { with_none = n; first = keys.first; other = keys.other })
  with_known_keys keys first place t n is known_other s e a =
      let known : IsFirstKey table before (Some first) = rw is at a.first in
      record {
        none = e ∙ none_more keys.with_none t a.none s;
        first = rw is (first_kept first known);
        other = λ key f.
            let key_is : known.0 ≡ key = same_first known.0 key known.2 f in
            let before_it : IsOtherKey table before known.0 (Some place) = rw known_other at (a.other known.0 known.2) in
            rw (← key_is, known_other) (other_kept known.0 place before_it);
      }

  -- the first pair of another key
  pub with_other_key : (keys : Keys) (first : KeyPlace) (t n : Bool) (place row : ℕ) → keys.first ≡ Some first → keys.other ≡ None
      → (first.row ≡ row → ⊥) → of_key pair ≡ true → length before ≡ place → IsRowOf table pair row → stands_for_none table pair ≡ t
      → n ≡ (keys.with_none || t) → AreKeys table before keys → AreKeys table more
      (record { with_none = n; first = keys.first; other = Some place })
  with_other_key keys first t n place row is none apart is_key at of_row s e a =
      let known : IsFirstKey table before (Some first) = rw is at a.first in
      record {
        none = e ∙ none_more keys.with_none t a.none s;
        first = rw is (first_kept first known);
        other = λ key f.
            let key_is : known.0 ≡ key = same_first known.0 key known.2 f in
            let lacks : IsOtherKey table before known.0 None = rw none at (a.other known.0 known.2) in
            let code = other_row table known.0 pair first.row row known.3 of_row apart in
            let passes : of_other known.0 pair ≡ true = rw (is_key, code) refl in
            rw (← key_is) (pair, last_at before pair place at, found_last (of_other known.0) before pair lacks passes);
      }

-- ---- pairs whose values do not mean none

pub all_counted : (table : List AiRow) (pairs : List Pair) → list_any (stands_for_none table) pairs ≡ false → counted table pairs ≡ pairs
all_counted table pairs none = filter_all (λ pair. not (stands_for_none table pair)) pairs
    (λ j pair at. not_from_false (stands_for_none table pair) (false_from_ne_true (stands_for_none table pair) (λ h. true≢false (sym (any_at (stands_for_none table) pairs j pair at h) ∙ none))))

-- ---- the keys of the first pairs of a list

pub no_keys_yet : (table : List AiRow) → AreKeys table [] (record { with_none = false; first = None; other = None })
no_keys_yet table = record { none = refl; first = refl; other = λ key f. absurd (let g : None ≡ Some key = f in cc) }

pub one_more : (pairs : List Pair) (i : ℕ) (pair : Pair) → i < length pairs → pair ≡ get_or pairs i pair → take (i + 1) pairs ≡ take i pairs ++ pair ∷ []
one_more pairs i pair low read = take_more pairs i pair low ∙ ap (λ (x : Pair). take i pairs ++ x ∷ []) (sym read)

pub with_next : (table : List AiRow) (pairs : List Pair) (i : ℕ) (pair : Pair) (keys next : Keys) → i < length pairs
    → pair ≡ get_or pairs i pair
    → ((before : List Pair) → length before ≡ i → AreKeys table before keys → AreKeys table (before ++ pair ∷ []) next)
    → AreKeys table (take i pairs) keys → AreKeys table (take (i + 1) pairs) next
with_next table pairs i pair keys next low read step a =
    rw (one_more pairs i pair low read) (step (take i pairs) (length-take-le i pairs (omega arith)) a)

-- a pair whose code no row has
pub with_unknown : (table : List AiRow) (pairs : List Pair) (i : ℕ) (pair : Pair) (keys : Keys) → KeepsRules table → i < length pairs
    → pair ≡ get_or pairs i pair → None ≡ position (has_code pair.code) table → AreKeys table (take i pairs) keys
    → AreKeys table (take (i + 1) pairs) keys
with_unknown table pairs i pair keys rules low read none a =
    let no_row = find_none (has_code pair.code) table (sym none) in
    let text = by_no_row table pair none in
    rw (one_more pairs i pair low read) (with_no_key table (take i pairs) pair keys false keys.with_none (no_key table rules pair.code no_row) text (or_false keys.with_none) a)
  where
    or_false : (b : Bool) → b ≡ (b || false)
    or_false true = refl
    or_false false = refl
