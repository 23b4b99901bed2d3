-- The key path in which segments end: there is at most one.
use Rattle.std.proofs.Common.{◌≡◌, ℕ, zero, suc, ◌+◌, ◌-◌, ◌≤◌, ◌||◌, Bool, true, false, List, [], ◌∷◌, ◌++◌, length, map, take, drop, find, slice_get, Option, Some, None, option_map, bytes_eq, refl, sym, ap, ◌∙◌, arith, ◌⊎◌, inl, inr, true≢false, append_assoc, reverse, take-append-drop}
use Rattle.std.specs.List.{list_any}
use Rattle.std.proofs.lemmas.List.{length-take-le, reverse-append}
use Rattle.gs_chars.proofs.TruthsAndLists.{and_first, and_second, equal_bytes, or_first, or_second, true_or_false, few_taken}
use Rattle.gs_ai.specs.declared.row.AiRow.{AiRow}
use Rattle.gs_ai.specs.Tables.{KeepsRules, is_key_of}
use Rattle.gs_ai.specs.Values.{has_code}
use Rattle.gs_dlink.specs.Paths.{IsKeyPath, codes_of, is_in_order, is_key_path, key_path, listed_of, paired, path_or}
use Rattle.gs_dlink.specs.Uris.{Piece, Written, segments}
use Rattle.gs_dlink.specs.UrisSupport.{LastSlash, NoSlash}
use Rattle.gs_dlink.proofs.CutLemmas.{no_segments, rest_taken, segments_last}

-- ---- segments in pairs

abbrev first_pair : Piece → Piece → Written
first_pair code value = record { at = code.at; code = code.text; value = value.text }

same_some : {X : Type 0} (a b : X) → Some a ≡ Some b → a ≡ b
same_some a b h = cc

-- the rest after a pair that is before others
tail_of : (w : Written) (o : Option (List Written)) (pairs : List Written) → option_map (λ rest. w ∷ rest) o ≡ Some pairs
    → (rest : List Written) × (o ≡ Some rest) × (pairs ≡ w ∷ rest)
tail_of w None pairs h = absurd (let g : None ≡ Some pairs = h in cc)
tail_of w (Some rest) pairs h = (rest, refl, sym (same_some (w ∷ rest) pairs h))

-- one segment more before pairs
pub odd : (x : Piece) (u : List Piece) (d : List Written) → paired u ≡ Some d → paired (x ∷ u) ≡ None
odd x [] d h = refl
odd x (y ∷ []) d h = absurd (let g : None ≡ Some d = h in cc)
odd x (y ∷ z ∷ u) d h =
    let rest = tail_of (first_pair y z) (paired u) d h in
    rw (odd z u rest.0 rest.1) refl

-- segments before pairs are not pairs, or they are pairs before them
pub in_front : (f u : List Piece) (d : List Written) → paired u ≡ Some d
    → (paired (f ++ u) ≡ None) ⊎ ((front : List Written) × (paired (f ++ u) ≡ Some (front ++ d)))
in_front [] u d h = inr ([], h)
in_front (x ∷ []) u d h = inl (odd x u d h)
in_front (x ∷ y ∷ f) u d h = elim (in_front f u d h) [
  | inl none ↦ inl (rw none refl)
  | inr some ↦ inr (first_pair x y ∷ some.0, rw some.1 refl)
]

-- ---- codes in the order of a list

-- a code that is not in the list is not in its order
pub none_in_order : (test : List ℕ → Bool) (list codes : List (List ℕ)) → list_any test list ≡ false → is_in_order list codes ≡ true
    → list_any test codes ≡ false
none_in_order test list [] none h = refl
none_in_order test [] (code ∷ codes) none h = absurd (true≢false (sym h))
none_in_order test (first ∷ list) (code ∷ codes) none h =
    let here = or_first (test first) (list_any test list) none in
    let there = or_second (test first) (list_any test list) none in
    elim (true_or_false (bytes_eq first code)) [
      | inl t ↦ let g = rw t at h in let same = equal_bytes first code t in rw (← same) (rw (here, none_in_order test list codes there g) refl)
      | inr t ↦ let g = rw t at h in none_in_order test list (code ∷ codes) there g
    ]

any_behind : (test : List ℕ → Bool) (front d : List Written) (s : Written) → test s.code ≡ true → list_any test (codes_of (front ++ s ∷ d)) ≡ true
any_behind test [] d s h = rw h refl
any_behind test (w ∷ front) d s h = by (test w.code) (any_behind test front d s h)
  where
    by : (b : Bool) {c : Bool} → c ≡ true → (b || c) ≡ true
    by true h = refl
    by false h = h

module _ (table : List AiRow) (rules : KeepsRules table) where
  abbrev is_key : List ℕ → Bool
  is_key code = is_key_of table code

  -- no row lists the code of a key
  pub lists_no_key : (key : List ℕ) → list_any is_key (listed_of table key) ≡ false
  lists_no_key key = by (find (has_code key) table) (λ row h. found (has_code key) table row h)
    where
      found : (test : AiRow → Bool) (rows : List AiRow) (row : AiRow) → find test rows ≡ Some row → (i : ℕ) × (slice_get rows i ≡ Some row)
      found test [] row h = absurd (let g : None ≡ Some row = h in cc)
      found test (r ∷ rows) row h = elim (true_or_false (test r)) [
        | inl t ↦ let g = rw t at h in (zero, g)
        | inr t ↦ let g = rw t at h in let rest = found test rows row g in (suc rest.0, rest.1)
      ]

      by : (o : Option AiRow) → ((row : AiRow) → o ≡ Some row → (i : ℕ) × (slice_get table i ≡ Some row))
          → list_any is_key (Rattle.std.specs.Option.option_map_or (λ (row : AiRow). row.qualifiers) o []) ≡ false
      by None h = refl
      by (Some row) h = let place = h row refl in (rules.lists_qualifiers place.0 row place.1).1

  -- a pair whose code is a key's is in no key path but at the start
  pub only_in_front : (w : Written) (front d : List Written) (s : Written) → is_key s.code ≡ true → is_key_path table (w ∷ (front ++ s ∷ d)) ≡ false
  only_in_front w front d s key = elim (true_or_false (is_key_path table (w ∷ (front ++ s ∷ d)))) [
    | inr other ↦ other
    | inl t ↦
        let ordered = and_second (is_key w.code) (is_in_order (listed_of table w.code) (codes_of (front ++ s ∷ d))) t in
        let none = none_in_order is_key (listed_of table w.code) (codes_of (front ++ s ∷ d)) (lists_no_key w.code) ordered in
        absurd (true≢false (sym (any_behind is_key front d s key) ∙ none))
  ]

  -- pairs without a key end in no key path
  pub no_path : (u : List Piece) (d : List Written) → paired u ≡ Some d → list_any is_key (codes_of d) ≡ false → key_path table u ≡ None
  unfolding key_path
  no_path [] d h none = refl
  no_path (x ∷ []) d h none = absurd (let g : None ≡ Some d = h in cc)
  no_path (x ∷ y ∷ u) d h none =
      let rest = tail_of (first_pair x y) (paired u) d h in
      let own = rw rest.2 at none in
      let here = or_first (is_key x.text) (list_any is_key (codes_of rest.0)) own in
      let there = or_second (is_key x.text) (list_any is_key (codes_of rest.0)) own in
      rw (odd y u rest.0 rest.1, rest.1, here) (no_path u rest.0 rest.1 there)

  pub no_odd_path : (x : Piece) (u : List Piece) (d : List Written) → paired u ≡ Some d → list_any is_key (codes_of d) ≡ false → key_path table (x ∷ u) ≡ None
  unfolding key_path
  no_odd_path x u d h none = rw (odd x u d h) (no_path u d h none)

  abbrev path_if : List Written → Option (List Written)
  path_if pairs = path_or table (Some pairs) None

  -- the segments before a key may be any
  pub path_from_key : (f u : List Piece) (s : Written) (d : List Written) → paired u ≡ Some (s ∷ d) → is_key s.code ≡ true
      → list_any is_key (codes_of d) ≡ false → key_path table (f ++ u) ≡ path_if (s ∷ d)
  unfolding key_path
  path_from_key [] [] s d h key none = absurd (let g : Some [] ≡ Some (s ∷ d) = h in cc)
  path_from_key [] (x ∷ []) s d h key none = absurd (let g : None ≡ Some (s ∷ d) = h in cc)
  path_from_key [] (x ∷ y ∷ u) s d h key none =
      let rest = tail_of (first_pair x y) (paired u) (s ∷ d) h in
      let same : d ≡ rest.0 = let e = rest.2 in cc in
      let own : paired u ≡ Some d = rw same rest.1 in
      rw (odd y u d own, h, no_path u d own none) refl
  path_from_key (p ∷ []) u s d h key none = rw (odd p u (s ∷ d) h) (path_from_key [] u s d h key none)
  path_from_key (p ∷ q ∷ f) u s d h key none =
      let rest = path_from_key (q ∷ f) u s d h key none in
      let others : Option (List Written) = key_path table (q ∷ (f ++ u)) in
      let by = λ (o : Option (List Written)). path_or table (option_map (λ pairs. first_pair p q ∷ pairs) o) others in
      elim (in_front f u (s ∷ d) h) [
        | inl none_in ↦ ap by none_in ∙ rest
        | inr some ↦ ap by some.1 ∙ rw (only_in_front (first_pair p q) some.0 d s key) rest
      ]

  -- ---- the laws

  split_path : (pairs : List Written) → is_key_path table pairs ≡ true
      → (s : Written) × (d : List Written) × (pairs ≡ s ∷ d) × (is_key s.code ≡ true) × (list_any is_key (codes_of d) ≡ false)
  split_path [] h = absurd (true≢false (sym h))
  split_path (s ∷ d) h =
      let key = and_first (is_key s.code) (is_in_order (listed_of table s.code) (codes_of d)) h in
      let ordered = and_second (is_key s.code) (is_in_order (listed_of table s.code) (codes_of d)) h in
      (s, d, refl, key, none_in_order is_key (listed_of table s.code) (codes_of d) (lists_no_key s.code) ordered)

  pub path_found : (segments : List Piece) (pairs : List Written) → IsKeyPath table segments pairs → key_path table segments ≡ Some pairs
  path_found segments pairs is =
      let p = split_path pairs is.is_path in
      let rest : paired (drop is.before segments) ≡ Some (p.0 ∷ p.1) = is.rest ∙ ap Some p.2 in
      let own : is_key_path table (p.0 ∷ p.1) ≡ true = rw p.2 at is.is_path in
      ap (key_path table) (sym (take-append-drop is.before segments))
      ∙ path_from_key (take is.before segments) (drop is.before segments) p.0 p.1 rest p.3 p.4
      ∙ rw own (ap Some (sym p.2))

  pub at_most_one : (segments : List Piece) (a b : List Written) → IsKeyPath table segments a → IsKeyPath table segments b → a ≡ b
  at_most_one segments a b is_a is_b = same_some a b (sym (path_found segments a is_a) ∙ path_found segments b is_b)

-- a path that is found is a key path
pub found_is_path : (table : List AiRow) (segments : List Piece) (pairs : List Written) → key_path table segments ≡ Some pairs → IsKeyPath table segments pairs
unfolding key_path
found_is_path table [] pairs h = absurd (let g : None ≡ Some pairs = h in cc)
found_is_path table (x ∷ segments) pairs h = by (λ g. found_is_path table segments pairs g) (paired (x ∷ segments)) refl h
  where
    later : IsKeyPath table segments pairs → IsKeyPath table (x ∷ segments) pairs
    later is = record { before = suc is.before; rest = is.rest; is_path = is.is_path }

    by : (key_path table segments ≡ Some pairs → IsKeyPath table segments pairs) → (o : Option (List Written)) → paired (x ∷ segments) ≡ o
        → path_or table o (key_path table segments) ≡ Some pairs → IsKeyPath table (x ∷ segments) pairs
    by others None e h = later (others h)
    by others (Some own) e h = elim (true_or_false (is_key_path table own)) [
      | inl t ↦ let g = rw t at h in let same = same_some own pairs g in record { before = zero; rest = e ∙ ap Some same; is_path = rw (← same) t }
      | inr t ↦ let g = rw t at h in later (others g)
    ]

-- ---- the walk from the end

-- The segments of the path are those of its start and then those of the pairs; none of them has the code of a key.
pub record Walked (table : List AiRow) (at : ℕ) (path front : List ℕ) (pairs : List Written) : Type 0 where
  pub within : length front ≤ length path
  pub behind : List Piece
  pub cut : segments at path ≡ segments at front ++ behind
  pub in_pairs : paired behind ≡ Some pairs
  pub no_key : list_any (λ code. is_key_of table code) (codes_of pairs) ≡ false

module _ (table : List AiRow) (rules : KeepsRules table) (at : ℕ) (path front : List ℕ) (pairs : List Written) (walked : Walked table at path front pairs) where
  -- no segment is left
  pub none_left : NoSlash front → None ≡ key_path table (segments at path)
  none_left h = sym (ap (key_path table) walked.cut ∙ rw (no_segments at front h) (no_path table rules walked.behind pairs walked.in_pairs walked.no_key))

  -- one segment is left
  pub one_left : (value : ℕ) → LastSlash front value → NoSlash (take value front) → None ≡ key_path table (segments at path)
  one_left value last h =
      sym (ap (key_path table) walked.cut ∙ rw (segments_last at front value last, no_segments at (take value front) h) (no_odd_path table rules _ walked.behind pairs walked.in_pairs walked.no_key))

  -- the pair of the last two segments
  abbrev last_pair : ℕ → ℕ → Written
  last_pair value code = record { at = at + code + 1; code = drop (code + 1) (take value front); value = drop (value + 1) front }

  two_behind : (value code : ℕ) → LastSlash front value → LastSlash (take value front) code
      → (u : List Piece) × (segments at path ≡ segments at (take code (take value front)) ++ u) × (paired u ≡ Some (last_pair value code ∷ pairs))
  two_behind value code last before =
      let low : length (take code (take value front)) ≡ code = length-take-le code (take value front) (let w = before.within in omega arith) in
      let c : Piece = record { at = at + length (take code (take value front)) + 1; text = drop (code + 1) (take value front) } in
      let v : Piece = record { at = at + length (take value front) + 1; text = drop (value + 1) front } in (
        c ∷ (v ∷ walked.behind),
        walked.cut ∙ rw (segments_last at front value last, segments_last at (take value front) code before)
            (append_assoc (segments at (take code (take value front)) ++ c ∷ []) (v ∷ []) walked.behind ∙ append_assoc (segments at (take code (take value front))) (c ∷ []) (v ∷ walked.behind)),
        rw (walked.in_pairs, low) refl,
      )

  -- the pair of a key before the others
  pub key_found : (value code : ℕ) → LastSlash front value → LastSlash (take value front) code
      → is_key_of table (last_pair value code).code ≡ true
      → key_path table (segments at path) ≡ path_if table rules (last_pair value code ∷ pairs)
  key_found value code last before key =
      let u = two_behind value code last before in
      ap (key_path table) u.1 ∙ path_from_key table rules (segments at (take code (take value front))) u.0 (last_pair value code) pairs u.2 key walked.no_key

  pub one_pair_more : (value code : ℕ) → LastSlash front value → LastSlash (take value front) code
      → is_key_of table (last_pair value code).code ≡ false
      → Walked table at path (take code (take value front)) (last_pair value code ∷ pairs)
  one_pair_more value code last before other =
      let u = two_behind value code last before in
      record {
        within = let w = walked.within in omega (arith, few_taken code (take value front), few_taken value front);
        behind = u.0;
        cut = u.1;
        in_pairs = u.2;
        no_key = rw other walked.no_key;
      }

-- one pair more, before those so far
turned : {X : Type 0} (old new : List X) (x : X) → new ≡ old ++ x ∷ [] → reverse new ≡ x ∷ reverse old
turned old new x e = rw (e, reverse-append old (x ∷ [])) refl

pub pushed : {X : Type 0} (f : X → Written) (old new : List X) (x : X) → new ≡ old ++ x ∷ [] → map f (reverse new) ≡ f x ∷ map f (reverse old)
pushed f old new x e = rw (turned old new x e) refl

-- the pairs after the one that was pushed last, and is at the start now
pub behind_last : {X : Type 0} (old new all : List X) (x : X) → new ≡ old ++ x ∷ [] → all ≡ reverse new → take (length all - 1) (drop 1 all) ≡ reverse old
behind_last old new all x e t = let whole : all ≡ x ∷ reverse old = t ∙ turned old new x e in rw whole (rest_taken 1 (x ∷ reverse old))

-- the key path of a key and the pairs after it
pub ordered_path : (table : List AiRow) (key : Written) (pairs : List Written) → is_key_of table key.code ≡ true
    → is_in_order (listed_of table key.code) (codes_of pairs) ≡ true → Some (key ∷ pairs) ≡ path_or table (Some (key ∷ pairs)) None
ordered_path table key pairs is ordered = rw (is, ordered) refl

pub no_ordered_path : (table : List AiRow) (key : Written) (pairs : List Written) → is_key_of table key.code ≡ true
    → is_in_order (listed_of table key.code) (codes_of pairs) ≡ false → None ≡ path_or table (Some (key ∷ pairs)) None
no_ordered_path table key pairs is ordered = rw (is, ordered) refl
