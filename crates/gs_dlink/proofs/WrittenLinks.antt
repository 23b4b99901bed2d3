-- The link that is written of an identity names the identity's pairs.
use Rattle.std.proofs.Common.{◌≡◌, ◌⊎◌, ℕ, zero, suc, ◌+◌, ◌==◌, not, nat_lt, nat_eq, true, false, List, [], ◌∷◌, ◌++◌, length, map, take, drop, Option, Some, None, bytes_eq, refl, sym, ap, ◌∙◌, inl, inr, true≢false, arith, append_assoc, append-nil, take-append-drop}
use Rattle.std.specs.Prelude.{Ok, codes}
use Rattle.std.specs.List.{after_first, before_first, filter_map, list_any, position_or_len, starts_with}
use Rattle.std.proofs.Math.Seq.{drop-append-add}
use Rattle.std.proofs.lemmas.Bool.Decides.{nat_tests}
use Rattle.std.proofs.lemmas.List.{drop-append-le}
use Rattle.gs_chars.proofs.TruthsAndLists.{and_first, and_second, equal_bytes, place_left, place_right, true_or_false, equal_number}
use Rattle.gs_ai.specs.declared.pair.Pair.{Pair}
use Rattle.gs_ai.specs.declared.row.AiRow.{AiRow}
use Rattle.gs_ai.specs.Tables.{KeepsRules, is_key_of}
use Rattle.gs_ident.specs.Elements.{Elements, pairs_of}
use Rattle.gs_ident.specs.Identities.{IsInOrder, IsMadeWith, counted, elements_of, listed, pair_with}
use Rattle.gs_ident.specs.Links.{path_step, percent_encoded, query_of, query_part, spelled}
use Rattle.gs_ident.proofs.IdentityLemmas.{Made, made_facts}
use Rattle.gs_ident.proofs.PairLemmas.{Each, each_from_all, found_passes}
use Rattle.gs_dlink.specs.Answers.{is_rooted, link_answer, target_answer}
use Rattle.gs_dlink.specs.Paths.{codes_of, is_in_order, key_path, listed_of, paired}
use Rattle.gs_dlink.specs.Stems.{are_stem_bytes, begins_authority, goes_on, is_stem_byte, stem_ok}
use Rattle.gs_chars.specs.Characters.{is_byte}
use Rattle.gs_dlink.specs.Uris.{Written, authority_end, ends_authority, path_of, pieces_behind, query_of as link_query_of, query_pairs, segments}
use Rattle.gs_dlink.proofs.CutLemmas.{after_none, after_seam, any_append, any_drop, before_none, before_seam, pieces_seam, place_seam, place_within}
use Rattle.gs_dlink.proofs.FreeBytes.{is_free, no_byte}
use Rattle.gs_dlink.proofs.KeyPaths.{lists_no_key, none_in_order, ordered_path, path_from_key}
use Rattle.gs_dlink.proofs.SpelledPairs.{AllSpelled, IsOfTable, all_read_again, code_free, of_table, query_read, spelled_append, steps, steps_read, tails, value_free}
use Rattle.gs_dlink.proofs.Targets.{link_by}
use Rattle.std.proofs.lemmas.Bool.{not-true}

-- ---- codes in the order of a list

monotone : (first : List ℕ) (list : List (List ℕ))
    → ((c : List ℕ) (cs : List (List ℕ)) → is_in_order list (c ∷ cs) ≡ true → is_in_order list cs ≡ true) → (cs : List (List ℕ))
    → is_in_order list cs ≡ true → is_in_order (first ∷ list) cs ≡ true
monotone first list fewer [] h = refl
monotone first list fewer (c ∷ cs) h = elim (true_or_false (bytes_eq first c)) [
  | inl t ↦ rw t (fewer c cs h)
  | inr t ↦ rw t h
]

fewer : (list : List (List ℕ)) (c : List ℕ) (cs : List (List ℕ)) → is_in_order list (c ∷ cs) ≡ true → is_in_order list cs ≡ true
fewer [] c cs h = absurd (true≢false (sym h))
fewer (first ∷ list) c cs h = elim (true_or_false (bytes_eq first c)) [
  | inl t ↦ let g = rw t at h in monotone first list (fewer list) cs g
  | inr t ↦ let g = rw t at h in monotone first list (fewer list) cs (fewer list c cs g)
]

abbrev pair_codes : List Pair → List (List ℕ)
pair_codes pairs = map (λ (pair : Pair). pair.code) pairs

chosen_in_order : (pairs : List Pair) (list : List (List ℕ)) → is_in_order list (pair_codes (filter_map (pair_with pairs) list)) ≡ true
chosen_in_order pairs [] = refl
chosen_in_order pairs (first ∷ list) = by (pair_with pairs first) refl (chosen_in_order pairs list)
  where
    by : (o : Option Pair) → pair_with pairs first ≡ o → is_in_order list (pair_codes (filter_map (pair_with pairs) list)) ≡ true
        → is_in_order (first ∷ list) (pair_codes (filter_map (pair_with pairs) (first ∷ list))) ≡ true
    by None e rest = rw e (monotone first list (fewer list) (pair_codes (filter_map (pair_with pairs) list)) rest)
    by (Some pair) e rest = let same = found_passes (λ (pair : Pair). bytes_eq first pair.code) pairs pair e in rw (e, same) rest

ordered_for : (table : List AiRow) (pairs : List Pair) (key own : Pair) (qualifiers : List Pair) → key ≡ own
    → qualifiers ≡ filter_map (pair_with pairs) (listed table own) → is_in_order (listed_of table key.code) (pair_codes qualifiers) ≡ true
ordered_for table pairs key own qualifiers e f = rw (e, f) (chosen_in_order pairs (listed table own))

-- ---- the facts of an identity that was made

module _ (table : List AiRow) (identity : Elements) (is_made : IsMadeWith table identity) where
  made : Made table (counted table (pairs_of identity)) identity
  made = made_facts table (counted table (pairs_of identity)) identity is_made.given_back

  key_is : identity.key ≡ made.key
  unfolding elements_of
  key_is = ap (λ (a : Elements). a.key) made.elements

  key_code : is_key_of table identity.key.code ≡ true
  key_code = rw key_is (found_passes (λ (pair : Pair). is_key_of table pair.code) (counted table (pairs_of identity)) made.key made.first)

  qualifiers_ordered : is_in_order (listed_of table identity.key.code) (pair_codes identity.qualifiers) ≡ true
  unfolding elements_of
  qualifiers_ordered =
      ordered_for table (counted table (pairs_of identity)) identity.key made.key identity.qualifiers key_is (ap (λ (a : Elements). a.qualifiers) made.elements)

-- ---- the codes of a written link

spelled_codes : (ws : List Written) (ps : List Pair) → AllSpelled ws ps → codes_of ws ≡ pair_codes ps
spelled_codes [] [] h = refl
spelled_codes [] (p ∷ ps) h = absurd h
spelled_codes (w ∷ ws) [] h = absurd h
spelled_codes (w ∷ ws) (p ∷ ps) h = rw (h.0.code, spelled_codes ws ps h.1) refl

-- ---- the bytes of a written link

-- the text of a query after its question mark
abbrev query_text : List Pair → List ℕ
query_text [] = []
query_text (p ∷ ps) = query_part p ++ tails ps

module _ (table : List AiRow) (s : ℕ) (separates : is_free s ≡ false) where
  no_step : is_byte s 47 ≡ false → (ps : List Pair) → Each (IsOfTable table) ps → list_any (is_byte s) (steps ps) ≡ false
  no_step other [] each = refl
  no_step other (p ∷ ps) each =
      let of = each zero p refl in
      let code = no_byte s separates p.code (code_free table p of) in
      let value = no_byte s separates (percent_encoded p.value) (value_free table p of) in
      let rest = no_step other ps (λ j q at. each (suc j) q at) in
      any_append (is_byte s) (path_step p) (steps ps) (rw other (any_append (is_byte s) p.code (47 ∷ percent_encoded p.value) code (rw other value))) rest

  no_part : is_byte s 61 ≡ false → (p : Pair) → IsOfTable table p → list_any (is_byte s) (query_part p) ≡ false
  no_part equals p of = any_append (is_byte s) p.code (61 ∷ percent_encoded p.value) (no_byte s separates p.code (code_free table p of))
      (rw equals (no_byte s separates (percent_encoded p.value) (value_free table p of)))

  no_tail : is_byte s 61 ≡ false → is_byte s 38 ≡ false → (ps : List Pair) → Each (IsOfTable table) ps → list_any (is_byte s) (tails ps) ≡ false
  no_tail equals and [] each = refl
  no_tail equals and (p ∷ ps) each = any_append (is_byte s) (38 ∷ query_part p) (tails ps) (rw and (no_part equals p (each zero p refl)))
      (no_tail equals and ps (λ j q at. each (suc j) q at))

-- ---- the answer to a path with its query that is written

module _ (table : List AiRow) (rules : KeepsRules table) (identity : Elements) (is_made : IsMadeWith table identity) where
  all_of : Each (IsOfTable table) (pairs_of identity)
  all_of j pair at = of_table table rules pair (each_from_all (IsInOrder table) (pairs_of identity) is_made.in_order j pair at)

  abbrev path_pairs : List Pair
  path_pairs = identity.key ∷ identity.qualifiers

  path_of_table : Each (IsOfTable table) path_pairs
  path_of_table zero pair at = all_of zero pair at
  path_of_table (suc j) pair at = all_of (suc j) pair (place_left identity.qualifiers identity.attributes j pair at)

  query_of_table : Each (IsOfTable table) identity.attributes
  query_of_table j pair at = let place = place_right identity.qualifiers identity.attributes j pair at in all_of (suc place.0) pair place.1

  -- the key path
  path_read : (at : ℕ) (p0 : List ℕ) → (ws : List Written) × (key_path table (segments at (p0 ++ steps path_pairs)) ≡ Some ws) × AllSpelled ws path_pairs
  unfolding segments
  path_read at p0 = by (steps_read table (at + length p0) path_pairs path_of_table)
    where
      by : ((ws : List Written) × (paired (pieces_behind (is_byte 47) (at + length p0) (steps path_pairs)) ≡ Some ws) × AllSpelled ws path_pairs)
          → (ws : List Written) × (key_path table (pieces_behind (is_byte 47) at (p0 ++ steps path_pairs)) ≡ Some ws) × AllSpelled ws path_pairs
      by ([], h, spelled) = absurd spelled
      by (s ∷ d, h, spelled) =
          let ordered : is_in_order (listed_of table s.code) (codes_of d) ≡ true = rw (spelled.0.code, spelled_codes d identity.qualifiers spelled.1) (qualifiers_ordered table identity is_made) in
          let key : is_key_of table s.code ≡ true = rw spelled.0.code (key_code table identity is_made) in
          let none = none_in_order (λ code. is_key_of table code) (listed_of table s.code) (codes_of d) (lists_no_key table rules s.code) ordered in (
            s ∷ d,
            ap (key_path table) (pieces_seam (is_byte 47) at p0 _ 47 refl)
                ∙ path_from_key table rules (pieces_behind (is_byte 47) at p0) (pieces_behind (is_byte 47) (at + length p0) (steps path_pairs)) s d h key none
                ∙ sym (ordered_path table s d key ordered),
            spelled,
          )

  -- the query
  query_found : (n : ℕ) → (ws : List Written) × (query_pairs n (query_text identity.attributes) ≡ ws) × AllSpelled ws identity.attributes
  unfolding query_pairs
  query_found n = by identity.attributes query_of_table
    where
      by : (ps : List Pair) → Each (IsOfTable table) ps → (ws : List Written) × (query_pairs n (query_text ps) ≡ ws) × AllSpelled ws ps
      by [] each = ([], refl, tt)
      by (p ∷ ps) each = query_read table n p ps each

  module _ (p0 : List ℕ) (no_question : list_any (is_byte 63) p0 ≡ false) (no_hash : list_any (is_byte 35) p0 ≡ false)
      (rooted : is_rooted (p0 ++ steps path_pairs) ≡ true) where
    abbrev front : List ℕ
    front = p0 ++ steps path_pairs

    abbrev rest : List ℕ
    rest = front ++ query_of identity.attributes

    front_question : list_any (is_byte 63) front ≡ false
    front_question = any_append (is_byte 63) p0 (steps path_pairs) no_question (no_step table 63 refl refl path_pairs path_of_table)

    front_hash : list_any (is_byte 35) front ≡ false
    front_hash = any_append (is_byte 35) p0 (steps path_pairs) no_hash (no_step table 35 refl refl path_pairs path_of_table)

    query_hash : (ps : List Pair) → Each (IsOfTable table) ps → list_any (is_byte 35) (query_of ps) ≡ false
    query_hash [] each = refl
    query_hash (p ∷ ps) each = any_append (is_byte 35) (query_part p) (tails ps) (no_part table 35 refl refl p (each zero p refl))
        (no_tail table 35 refl refl refl ps (λ j q at. each (suc j) q at))

    whole : before_first (is_byte 35) rest ≡ rest
    whole = before_none (is_byte 35) rest (any_append (is_byte 35) front (query_of identity.attributes) front_hash (query_hash identity.attributes query_of_table))

    cut_path : (ps : List Pair) → before_first (is_byte 63) (front ++ query_of ps) ≡ front
    cut_path [] = ap (before_first (is_byte 63)) (append-nil front) ∙ before_none (is_byte 63) front front_question
    cut_path (p ∷ ps) = before_seam (is_byte 63) front (query_text (p ∷ ps)) 63 refl ∙ before_none (is_byte 63) front front_question

    cut_query : (ps : List Pair) → after_first (is_byte 63) (front ++ query_of ps) ≡ query_text ps
    cut_query [] = ap (after_first (is_byte 63)) (append-nil front) ∙ after_none (is_byte 63) front front_question
    cut_query (p ∷ ps) = after_seam (is_byte 63) front (query_text (p ∷ ps)) 63 front_question refl

    pub target_read : (at : ℕ) → target_answer table at rest ≡ Ok (pairs_of identity)
    unfolding target_answer
    target_read at =
        let path = path_read at p0 in
        let query = query_found (at + length front + 1) in
        let p : path_of rest ≡ front = ap (before_first (is_byte 63)) whole ∙ cut_path identity.attributes in
        let q : link_query_of rest ≡ query_text identity.attributes = ap (after_first (is_byte 63)) whole ∙ cut_query identity.attributes in
        rw (p, q, rooted, path.1, query.1) (all_read_again table (path.0 ++ query.0) (path_pairs ++ identity.attributes) (spelled_append path.0 query.0 path_pairs identity.attributes path.2 query.2) all_of)

-- ---- the stem

-- the path of a stem is empty or begins with a slash
stem_rooted : (r z : List ℕ) → list_any (is_byte 63) r ≡ false → list_any (is_byte 35) r ≡ false
    → is_rooted (drop (position_or_len ends_authority r) r ++ 47 ∷ z) ≡ true
stem_rooted [] z no_question no_hash = refl
stem_rooted (c ∷ r) z no_question no_hash = elim (true_or_false (is_byte 63 c)) [
  | inl q ↦ absurd (let g = rw q at no_question in true≢false g)
  | inr q ↦ elim (true_or_false (is_byte 35 c)) [
    | inl h ↦ absurd (let g = rw h at no_hash in true≢false g)
    | inr h ↦
        let question = rw q at no_question in
        let hash = rw h at no_hash in
        elim (true_or_false (is_byte 47 c)) [
          | inl t ↦ rw t t
          | inr t ↦ let e : 1 + position_or_len ends_authority r ≡ suc (position_or_len ends_authority r) = grind arith in rw (t, q, h, e)
              (stem_rooted r z question hash)
        ]
  ]
]

stem_free : (s : ℕ) → is_stem_byte s ≡ false → (r : List ℕ) → are_stem_bytes r ≡ true → list_any (is_byte s) r ≡ false
stem_free s other [] h = refl
stem_free s other (c ∷ r) h = elim (true_or_false (is_byte s c)) [
  | inl t ↦ absurd (let same : c ≡ s = equal_number c s t in true≢false (sym (and_first (is_stem_byte c) (are_stem_bytes r) h) ∙ ap is_stem_byte same ∙ other))
  | inr t ↦ rw t (stem_free s other r (and_second (is_stem_byte c) (are_stem_bytes r) h))
]

-- the stem after its scheme
record Behind (r : List ℕ) : Type 0 where
  first : ℕ
  others : List ℕ
  is : r ≡ first ∷ others
  no_slash : (is_byte 47) first ≡ false
  bytes : are_stem_bytes r ≡ true

behind_http : (r : List ℕ) → goes_on (codes "http://" ++ r) 7 ≡ true → are_stem_bytes (codes "http://" ++ r) ≡ true → Behind r
behind_http [] h bytes = absurd (true≢false (sym h))
behind_http (c ∷ r) h bytes = record { first = c; others = r; is = refl; no_slash = not-true (c == 47) (and_second (nat_lt 7 (length (codes "http://" ++ c ∷ r))) (not (c == 47)) h); bytes = bytes }

behind_https : (r : List ℕ) → goes_on (codes "https://" ++ r) 8 ≡ true → are_stem_bytes (codes "https://" ++ r) ≡ true → Behind r
behind_https [] h bytes = absurd (true≢false (sym h))
behind_https (c ∷ r) h bytes = record { first = c; others = r; is = refl; no_slash = not-true (c == 47) (and_second (nat_lt 8 (length (codes "https://" ++ c ∷ r))) (not (c == 47)) h); bytes = bytes }

-- the stem is one of the schemes and the rest after it
stem_cut : (stem : List ℕ) → stem_ok stem ≡ true → (r : List ℕ) × ((stem ≡ codes "http://" ++ r) ⊎ (stem ≡ codes "https://" ++ r)) × Behind r
unfolding stem_ok
stem_cut stem h =
    let front = and_first _ _ h in
    let begins : begins_authority stem ≡ true = and_second _ _ front in
    let bytes : are_stem_bytes stem ≡ true = and_second _ _ (and_first _ _ front) in
    elim (true_or_false (starts_with nat_eq stem (codes "http://"))) [
      | inl t ↦
          let own = rw t at begins in
          let is : stem ≡ codes "http://" ++ drop 7 stem = sym (take-append-drop 7 stem) ∙ ap (λ (front : List ℕ). front ++ drop 7 stem) (sym (equal_bytes (codes "http://") (take 7 stem) t)) in
          (drop 7 stem, inl is, behind_http (drop 7 stem) (ap (λ text. goes_on text 7) (sym is) ∙ own) (ap are_stem_bytes (sym is) ∙ bytes))
      | inr t ↦
          let both = rw t at begins in
          let other : starts_with nat_eq stem (codes "https://") ≡ true = and_first _ _ both in
          let own : goes_on stem 8 ≡ true = and_second _ _ both in
          let is : stem ≡ codes "https://" ++ drop 8 stem = sym (take-append-drop 8 stem) ∙ ap (λ (front : List ℕ). front ++ drop 8 stem) (sym (equal_bytes (codes "https://") (take 8 stem) other)) in
          (drop 8 stem, inr is, behind_https (drop 8 stem) (ap (λ text. goes_on text 8) (sym is) ∙ own) (ap are_stem_bytes (sym is) ∙ bytes))
    ]

-- ---- the authority

http_end : (y : List ℕ) → (position_or_len ends_authority y == 0) ≡ false → authority_end (codes "http://" ++ y) ≡ Some (7 + position_or_len ends_authority y)
unfolding authority_end
http_end y h = rw h refl

https_end : (y : List ℕ) → (position_or_len ends_authority y == 0) ≡ false → authority_end (codes "https://" ++ y) ≡ Some (8 + position_or_len ends_authority y)
unfolding authority_end
https_end y h = rw h refl

-- the rest after a scheme has an authority
authority_there : (r : List ℕ) → Behind r → (position_or_len ends_authority r == 0) ≡ false
authority_there r b = rw b.is (by b.first b.no_slash (stem_free 63 refl (b.first ∷ b.others) (rw b.is at b.bytes)) (stem_free 35 refl (b.first ∷ b.others) (rw b.is at b.bytes)))
  where
    by : (c : ℕ) → is_byte 47 c ≡ false → list_any (is_byte 63) (c ∷ b.others) ≡ false → list_any (is_byte 35) (c ∷ b.others) ≡ false
        → (position_or_len ends_authority (c ∷ b.others) == 0) ≡ false
    by c slash question hash = elim (true_or_false (is_byte 63 c)) [
      | inl q ↦ absurd (let g = rw q at question in true≢false g)
      | inr q ↦ elim (true_or_false (is_byte 35 c)) [
        | inl h ↦ absurd (let g = rw h at hash in true≢false g)
        | inr h ↦ rw (slash, q, h) (more (position_or_len ends_authority b.others))
      ]
    ]
      where
        more : (n : ℕ) → (1 + n == 0) ≡ false
        more n = grind (arith, nat_tests)

module _ (table : List AiRow) (rules : KeepsRules table) (identity : Elements) (is_made : IsMadeWith table identity) where
  in_shape : (stem : List ℕ) → spelled stem identity ≡ stem ++ (steps (identity.key ∷ identity.qualifiers) ++ query_of identity.attributes)
  in_shape stem =
      append_assoc (stem ++ path_step identity.key) (steps identity.qualifiers) (query_of identity.attributes)
      ∙ append_assoc stem (path_step identity.key) (steps identity.qualifiers ++ query_of identity.attributes)
      ∙ ap (λ (text : List ℕ). stem ++ text) (sym (append_assoc (path_step identity.key) (steps identity.qualifiers) (query_of identity.attributes)))

  -- the text after the scheme, cut at the end of the authority
  behind_read : (r : List ℕ) → Behind r → (text : List ℕ) (n : ℕ) → authority_end text ≡ Some (n + position_or_len ends_authority r)
      → drop (n + position_or_len ends_authority r) text ≡ drop (position_or_len ends_authority r)
      (r ++ (steps (identity.key ∷ identity.qualifiers) ++ query_of identity.attributes)) → link_answer table text ≡ Ok
      (pairs_of identity)
  behind_read r b text n end left =
      let m : ℕ = position_or_len ends_authority r in
      let body : List ℕ = steps (identity.key ∷ identity.qualifiers) ++ query_of identity.attributes in
      let own : drop (n + m) text ≡ (drop m r ++ steps (identity.key ∷ identity.qualifiers)) ++ query_of identity.attributes =
      left ∙ drop-append-le m r body (place_within ends_authority r) ∙ sym
      (append_assoc (drop m r) (steps (identity.key ∷ identity.qualifiers)) (query_of identity.attributes)) in
      let question = stem_free 63 refl r b.bytes in
      let hash = stem_free 35 refl r b.bytes in
      link_by table text (n + m) (sym end) ∙ ap (target_answer table (n + m)) own
      ∙ target_read table rules identity is_made (drop m r) (any_drop (is_byte 63) r m question) (any_drop (is_byte 35) r m hash)
      (stem_rooted r _ question hash) (n + m)

  pub link_read : (stem : List ℕ) → stem_ok stem ≡ true → link_answer table (spelled stem identity) ≡ Ok (pairs_of identity)
  link_read stem ok =
      let cut = stem_cut stem ok in
      let r : List ℕ = cut.0 in
      let body : List ℕ = steps (identity.key ∷ identity.qualifiers) ++ query_of identity.attributes in
      let place : position_or_len ends_authority (r ++ body) ≡ position_or_len ends_authority r = place_seam ends_authority r _ 47 refl in
      let there : (position_or_len ends_authority (r ++ body) == 0) ≡ false = rw place (authority_there r cut.2) in
      elim cut.1 [
        | inl is ↦
            let text : spelled stem identity ≡ codes "http://" ++ (r ++ body) = in_shape stem ∙ ap (λ (front : List ℕ). front ++ body) is ∙ append_assoc (codes "http://") r body in
            ap (link_answer table) text ∙ behind_read r cut.2 (codes "http://" ++ (r ++ body)) 7
            (http_end (r ++ body) there ∙ ap (λ (n : ℕ). Some (7 + n)) place)
            (drop-append-add (codes "http://") (r ++ body) (position_or_len ends_authority r))
        | inr is ↦
            let text : spelled stem identity ≡ codes "https://" ++ (r ++ body) = in_shape stem ∙ ap (λ (front : List ℕ). front ++ body) is ∙ append_assoc (codes "https://") r body in
            ap (link_answer table) text ∙ behind_read r cut.2 (codes "https://" ++ (r ++ body)) 8
            (https_end (r ++ body) there ∙ ap (λ (n : ℕ). Some (8 + n)) place)
            (drop-append-add (codes "https://") (r ++ body) (position_or_len ends_authority r))
      ]

pub canonical_stem_ok : stem_ok (codes "https://id.gs1.org") ≡ true
unfolding stem_ok
canonical_stem_ok = refl
