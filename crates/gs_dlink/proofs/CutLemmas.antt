-- Texts that are cut at the first or the last byte that passes a test, and the pieces between such bytes.
use Rattle.std.proofs.Common.{◌≡◌, ℕ, zero, suc, ◌+◌, ◌-◌, ◌<◌, ◌≤◌, ◌==◌, not, Bool, true, false, cond, List, [], ◌∷◌, ◌++◌, length, get_or, take, drop, Option, Some, None, refl, sym, ap, ◌∙◌, arith, inl, inr, if◌then◌else◌, drop-cons, take-append-drop, add-one, append-nil, append_assoc, length-drop}
use Rattle.std.specs.List.{after_first, before_first, list_any, position_or_len}
use Rattle.std.specs.Prelude.{option_and_then}
use Rattle.std.specs.Option.{MatchOption}
use Rattle.std.proofs.lemmas.Bool.Decides.{nat_tests}
use Rattle.std.proofs.lemmas.List.{get_or-drop, take_all}
use Rattle.memchr.specs.Find.{IsLastByte, NoneAfter, Nowhere, Passes}
use Rattle.gs_chars.proofs.TruthsAndLists.{or_second, true_or_false, equal_number}
use Rattle.gs_dlink.specs.Uris.{authority_end, authority_from, ends_authority, scheme_end, part_pairs, pieces_behind, query_pairs, query_parts, segments, separates_parts, Written}
use Rattle.gs_dlink.specs.UrisSupport.{LastSlash, NoSlash}
use Rattle.std.proofs.lemmas.Bool.{false_from_ne_true}
use Rattle.gs_chars.specs.Characters.{is_byte}

-- ---- the results of the searches of `memchr`

none_any : (test : ℕ → Bool) (text : List ℕ) → ((k : ℕ) → k < length text → test (get_or text k 0) ≡ false) → list_any test text ≡ false
none_any test [] none = refl
none_any test (c ∷ text) none = rw (none zero (omega arith), none_any test text (λ k low. none (suc k) (omega arith))) refl

pub no_slash : (text : List ℕ) → Nowhere (Passes (is_byte 47) text) 0 (length text) → NoSlash text
no_slash text h = none_any (is_byte 47) text (λ k low. false_from_ne_true _ (h k (omega arith) low))

cut_at : (text : List ℕ) (k : ℕ) → k < length text → get_or text k 0 ≡ 47 → text ≡ take k text ++ 47 ∷ drop (k + 1) text
cut_at text k within h =
    let e : drop k text ≡ 47 ∷ drop (k + 1) text = rw (add-one) (drop-cons text k 0 within ∙ ap (λ c. c ∷ drop (suc k) text) h) in
    sym (take-append-drop k text) ∙ ap (λ rest. take k text ++ rest) e

pub last_at : (text : List ℕ) (k : ℕ) → NoneAfter (Passes (is_byte 47) text) 0 (length text) k → (is_byte 47) (get_or text k 0) ≡ true → LastSlash text k
last_at text k none h = record {
  within = none.high;
  cut = cut_at text k none.high (equal_number (get_or text k 0) 47 h);
  last = none_any (is_byte 47) (drop (k + 1) text) (λ j low.
      let at = get_or-drop (k + 1) text j 0 in
      let inside : k + 1 + j < length text = below text k j none.high low in
      rw at (false_from_ne_true _ (none.after (k + 1 + j) (omega arith) inside)));
}
  where
    below : (text : List ℕ) (k j : ℕ) → k < length text → j < length (drop (k + 1) text) → k + 1 + j < length text
    below [] k j h low = absurd (omega arith)
    below (c ∷ text) zero j h low = omega arith
    below (c ∷ text) (suc k) j h low =
        let e : suc k + 1 ≡ suc (k + 1) = omega arith in
        let low' : j < length (drop (k + 1) text) = rw e at low in
        omega (arith, below text k j (omega arith) low')

-- the last slash, if there is one
pub slash_answer : (text : List ℕ) (r : Option ℕ) → IsLastByte (is_byte 47) text r → MatchOption r (NoSlash text) (LastSlash text)
slash_answer text None h = no_slash text h
slash_answer text (Some k) h = last_at text k h.0 h.1

pub any_append : (test : ℕ → Bool) (a b : List ℕ) → list_any test a ≡ false → list_any test b ≡ false → list_any test (a ++ b) ≡ false
any_append test [] b f g = g
any_append test (c ∷ a) b f g = elim (true_or_false (test c)) [
  | inl t ↦ absurd (let h = rw t at f in let bad : true ≡ false = h in cc)
  | inr t ↦ let h = rw t at f in rw t (any_append test a b h g)
]

-- ---- the first byte, one byte at a time

module _ (test : ℕ → Bool) where
  pub before-cons : (c : ℕ) (text : List ℕ) → before_first test (c ∷ text) ≡ (if test c then [] else c ∷ before_first test text)
  before-cons c text = elim (true_or_false (test c)) [
    | inl h ↦ rw h refl
    | inr h ↦ let e : 1 + position_or_len test text ≡ suc (position_or_len test text) = omega arith in rw h (rw e refl)
  ]

  pub after-cons : (c : ℕ) (text : List ℕ) → after_first test (c ∷ text) ≡ (if test c then text else after_first test text)
  after-cons c text = elim (true_or_false (test c)) [
    | inl h ↦ rw h refl
    | inr h ↦ let e : 1 + position_or_len test text + 1 ≡ suc (position_or_len test text + 1) = omega arith in rw h (rw e refl)
  ]

  -- a text that goes on with a byte that passes is cut there or before
  pub before_seam : (a b : List ℕ) (s : ℕ) → test s ≡ true → before_first test (a ++ s ∷ b) ≡ before_first test a
  before_seam [] b s h = rw (before-cons s b, h) refl
  before_seam (c ∷ a) b s h = rw (before-cons c (a ++ s ∷ b), before-cons c a, before_seam a b s h) refl

  pub before_none : (a : List ℕ) → list_any test a ≡ false → before_first test a ≡ a
  before_none [] h = refl
  before_none (c ∷ a) h = elim (true_or_false (test c)) [
    | inl t ↦ absurd (let g = rw t at h in let bad : true ≡ false = g in cc)
    | inr t ↦ let g = rw t at h in rw (before-cons c a, t, before_none a g) refl
  ]

  pub after_seam : (a b : List ℕ) (s : ℕ) → list_any test a ≡ false → test s ≡ true → after_first test (a ++ s ∷ b) ≡ b
  after_seam [] b s none h = rw (after-cons s b, h) refl
  after_seam (c ∷ a) b s none h = elim (true_or_false (test c)) [
    | inl t ↦ absurd (let g = rw t at none in let bad : true ≡ false = g in cc)
    | inr t ↦ let g = rw t at none in rw (after-cons c (a ++ s ∷ b), t) (after_seam a b s g h)
  ]

  pub after_none : (a : List ℕ) → list_any test a ≡ false → after_first test a ≡ []
  after_none [] h = refl
  after_none (c ∷ a) h = elim (true_or_false (test c)) [
    | inl t ↦ absurd (let g = rw t at h in let bad : true ≡ false = g in cc)
    | inr t ↦ let g = rw t at h in rw (after-cons c a, t) (after_none a g)
  ]

  -- ---- pieces

  pub no_pieces : (at : ℕ) (a : List ℕ) → list_any test a ≡ false → pieces_behind test at a ≡ []
  no_pieces at [] h = refl
  no_pieces at (c ∷ a) h = elim (true_or_false (test c)) [
    | inl t ↦ absurd (let g = rw t at h in let bad : true ≡ false = g in cc)
    | inr t ↦ let g = rw t at h in rw t (no_pieces (at + 1) a g)
  ]

  -- the pieces of a text that is cut at a byte that passes
  pub pieces_seam : (at : ℕ) (a b : List ℕ) (s : ℕ) → test s ≡ true
      → pieces_behind test at (a ++ s ∷ b) ≡ pieces_behind test at a ++ (record { at = at + length a + 1; text = before_first test b } ∷ pieces_behind test (at + length a + 1) b)
  pieces_seam at [] b s h = let e : at + 1 ≡ at + 0 + 1 = omega arith in rw (h, e) refl
  pieces_seam at (c ∷ a) b s h =
      let rest = pieces_seam (at + 1) a b s h in
      let e : at + 1 + length a + 1 ≡ at + suc (length a) + 1 = omega arith in
      elim (true_or_false (test c)) [
        | inl t ↦ rw (t, rest, e, before_seam a b s h) refl
        | inr t ↦ rw (t, rest, e) refl
      ]

-- the segments of a path, by its last slash
pub segments_last : (at : ℕ) (path : List ℕ) (k : ℕ) → LastSlash path k
    → segments at path ≡ segments at (take k path) ++ (record { at = at + length (take k path) + 1; text = drop (k + 1) path }) ∷ []
unfolding segments
segments_last at path k h =
    ap (λ text. pieces_behind (is_byte 47) at text) h.cut
    ∙ pieces_seam (is_byte 47) at (take k path) (drop (k + 1) path) 47 refl
    ∙ rw (before_none (is_byte 47) (drop (k + 1) path) h.last, no_pieces (is_byte 47) (at + length (take k path) + 1) (drop (k + 1) path) h.last) refl

pub no_segments : (at : ℕ) (path : List ℕ) → NoSlash path → segments at path ≡ []
unfolding segments
no_segments at path h = no_pieces (is_byte 47) at path h

-- ---- lengths

-- ---- the parts of a query, from the start

abbrev first_place : List ℕ → ℕ
first_place query = position_or_len separates_parts query

pieces_step : (at : ℕ) (query : List ℕ) → first_place query < length query
    → pieces_behind separates_parts at query ≡ query_parts (at + first_place query + 1) (after_first separates_parts query)
pieces_step at [] h = absurd (omega arith)
pieces_step at (c ∷ query) h = elim (true_or_false (separates_parts c)) [
  | inl t ↦ let e : at + 0 + 1 ≡ at + 1 = omega arith in rw (after-cons separates_parts c query, t, e) refl
  | inr t ↦
      let g = rw t at h in
      let low : first_place query < length query = omega arith in
      let e : at + (1 + first_place query) + 1 ≡ at + 1 + first_place query + 1 = omega arith in
      rw (after-cons separates_parts c query, t, e) (pieces_step (at + 1) query low)
]

pub parts_step : (at : ℕ) (query : List ℕ) → first_place query < length query → query_pairs at query ≡ part_pairs
    (record { at = at; text = take (first_place query) query }) ++ query_pairs (at + first_place query + 1)
    (drop (first_place query + 1) query)
unfolding query_pairs
parts_step at query h = rw (pieces_step at query h) refl

pieces_end : (at : ℕ) (query : List ℕ) → first_place query ≡ length query → pieces_behind separates_parts at query ≡ []
pieces_end at [] h = refl
pieces_end at (c ∷ query) h = elim (true_or_false (separates_parts c)) [
  | inl t ↦ absurd (let g = rw t at h in let bad : 0 ≡ suc (length query) = g in omega arith)
  | inr t ↦ let g = rw t at h in let low : first_place query ≡ length query = omega arith in rw t (pieces_end (at + 1) query low)
]

pub parts_end : (at : ℕ) (query : List ℕ) → first_place query ≡ length query → query_pairs at query ≡ part_pairs
    (record { at = at; text = take (first_place query) query })
unfolding query_pairs
parts_end at query h = rw (pieces_end at query h) (append-nil _)

-- ---- the rest of a text

pub rest_taken : {X : Type 0} (n : ℕ) (xs : List X) → take (length xs - n) (drop n xs) ≡ drop n xs
rest_taken n xs = take_all (length xs - n) (drop n xs) (omega (arith, length-drop n xs))

-- ---- the loop over a query

module _ (all front new : List Written) (at : ℕ) (rest : List ℕ) (end : ℕ) (so_far : front ++ query_pairs at rest ≡ all)
    (place : end ≡ first_place rest) (part : new ≡ front ++ part_pairs (record { at = at; text = take end rest })) where
  pub query_ends : end ≡ length rest → new ≡ all
  query_ends last = part ∙ rw place (ap (λ pairs. front ++ pairs) (sym (parts_end at rest (sym place ∙ last)))) ∙ so_far

  pub query_goes_on : end < length rest → new ++ query_pairs (at + (end + 1)) (drop (end + 1) rest) ≡ all
  query_goes_on low =
      let low' : first_place rest < length rest = rw place at low in
      let e : at + (first_place rest + 1) ≡ at + first_place rest + 1 = omega arith in
      rw (part, place, e) (append_assoc front (part_pairs (record { at = at; text = take (first_place rest) rest })) _ ∙ ap (λ pairs. front ++ pairs) (sym (parts_step at rest low'))) ∙ so_far

-- ---- a byte that passes leaves the rest unchanged

module _ (test : ℕ → Bool) where
  pub place_seam : (a b : List ℕ) (s : ℕ) → test s ≡ true → position_or_len test (a ++ s ∷ b) ≡ position_or_len test a
  place_seam [] b s h = rw h refl
  place_seam (c ∷ a) b s h = ap (λ n. cond (not (test c)) (1 + n) 0) (place_seam a b s h)

  pub place_within : (a : List ℕ) → position_or_len test a ≤ length a
  place_within [] = omega arith
  place_within (c ∷ a) = elim (true_or_false (test c)) [ inl t ↦ rw t (omega arith) | inr t ↦ rw t (omega (arith, place_within a)) ]

  pub any_drop : (a : List ℕ) (n : ℕ) → list_any test a ≡ false → list_any test (drop n a) ≡ false
  any_drop [] zero h = refl
  any_drop [] (suc n) h = refl
  any_drop (c ∷ a) zero h = h
  any_drop (c ∷ a) (suc n) h = any_drop a n (or_second (test c) (list_any test a) h)

-- ---- the authority after a scheme

pub no_scheme : (text : List ℕ) → None ≡ scheme_end text → None ≡ authority_end text
unfolding authority_end
no_scheme text h = ap (option_and_then (authority_from text)) h

behind_scheme : (text : List ℕ) (n : ℕ) → Some n ≡ scheme_end text → authority_from text n ≡ authority_end text
unfolding authority_end
behind_scheme text n h = ap (option_and_then (authority_from text)) h

pub no_authority : (text : List ℕ) (n len : ℕ) → Some n ≡ scheme_end text → len ≡ position_or_len ends_authority (drop n text) → len ≡ 0
    → None ≡ authority_end text
no_authority text n len scheme place none =
    let own : None ≡ authority_from text n = rw (sym place ∙ none) refl in
    own ∙ behind_scheme text n scheme

pub some_authority : (text : List ℕ) (n len : ℕ) → Some n ≡ scheme_end text → len ≡ position_or_len ends_authority (drop n text)
    → (len ≡ 0 → ⊥) → Some (n + len) ≡ authority_end text
some_authority text n len scheme place some =
    let own : Some (n + len) ≡ authority_from text n = rw (← place, not_zero len some) refl in
    own ∙ behind_scheme text n scheme
  where
    not_zero : (k : ℕ) → (k ≡ 0 → ⊥) → (k == 0) ≡ false
    not_zero k h = grind (arith, nat_tests)
