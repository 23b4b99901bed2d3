-- Pairs that are written in a link are read again.
use Rattle.std.proofs.Common.{◌≡◌, ℕ, zero, suc, ◌+◌, ◌≤◌, ◌==◌, ◌&&◌, ◌||◌, not, nat_le, Bool, true, false, List, [], ◌∷◌, ◌++◌, All, length, find, Some, None, refl, sym, ap, ◌∙◌, inl, inr, true≢false, arith, append_assoc, append-nil}
use Rattle.std.specs.Prelude.{Ok}
use Rattle.std.specs.List.{after_first, before_first, flat_map, list_any}
use Rattle.std.proofs.lemmas.Bool.Decides.{nat_tests}
use Rattle.percent_encoding.specs.Percent.{percent_decode}
use Rattle.gs_chars.specs.Characters.{are_digits, is_byte}
use Rattle.gs_chars.proofs.TruthsAndLists.{and_first, and_second, equal_bytes, true_or_false, equal_number}
use Rattle.gs_ai.specs.declared.errors.ValueFault.TheVariants.{Unknown, Length}
use Rattle.gs_ai.specs.declared.pair.Pair.{Pair}
use Rattle.gs_ai.specs.declared.part.Part.{Part}
use Rattle.gs_ai.specs.declared.part.Part.TheVariants.{NumCheck}
use Rattle.gs_ai.specs.declared.row.AiRow.{AiRow}
use Rattle.gs_ai.specs.Tables.{KeepsRules, is_code, is_empty, is_gtin, is_row}
use Rattle.gs_ai.specs.Values.{has_code, has_length_of, parts_error, value_error}
use Rattle.gs_ai.proofs.RowLemmas.{code_digits, code_long, row_code}
use Rattle.gs_ai.proofs.ValueLemmas.{value_in_set82}
use Rattle.gs_ident.specs.Identities.{IsInOrder}
use Rattle.gs_ident.specs.Links.{path_step, percent_encoded, query_part}
use Rattle.gs_ident.proofs.PairLemmas.{Each, find_by_cases, found_each, found_passes}
use Rattle.gs_ident.proofs.ValueEscapes.{IsByte}
use Rattle.gs_dlink.specs.Answers.{written_answer}
use Rattle.gs_dlink.specs.Paths.{paired}
use Rattle.gs_dlink.specs.Uris.{Written, part_pairs, pieces_behind, query_parts, separates_parts}
use Rattle.gs_dlink.specs.Values.{is_short_gtin, padded, pair_answer}
use Rattle.gs_dlink.proofs.CutLemmas.{after_seam, any_append, before_none, before_seam, no_pieces, pieces_seam}
use Rattle.gs_dlink.proofs.FreeBytes.{are_free, decoded_again, digits_free, encoded_escapes, encoded_free, is_free, no_byte, none_in, set82_bytes}
use Rattle.gs_dlink.proofs.JudgementLemmas.{valued}

-- ---- the written form of a pair

pub record IsSpelled (written : Written) (pair : Pair) : Type 0 where
  pub code : written.code ≡ pair.code
  pub value : written.value ≡ percent_encoded pair.value

abbrev pub AllSpelled : List Written → List Pair → Type 0
AllSpelled [] [] = Unit {0}
AllSpelled (w ∷ ws) (p ∷ ps) = IsSpelled w p × AllSpelled ws ps
AllSpelled _ _ = ⊥

pub spelled_append : (ws vs : List Written) (ps qs : List Pair) → AllSpelled ws ps → AllSpelled vs qs → AllSpelled (ws ++ vs) (ps ++ qs)
spelled_append [] vs [] qs f g = g
spelled_append [] vs (p ∷ ps) qs f g = absurd f
spelled_append (w ∷ ws) vs [] qs f g = absurd f
spelled_append (w ∷ ws) vs (p ∷ ps) qs f g = (f.0, spelled_append ws vs ps qs f.1 g)

-- ---- a value in order is not a short GTIN

has_length : (parts : List Part) (value : List ℕ) → parts_error parts value ≡ None → has_length_of parts value ≡ true
has_length parts value h = elim (true_or_false (has_length_of parts value)) [
  | inl t ↦ t
  | inr t ↦ absurd (let g = rw t at h in let bad : Some Length ≡ None = g in cc)
]

gtin_length : (parts : List Part) (value : List ℕ) → is_gtin parts ≡ true → has_length_of parts value ≡ true → length value ≡ 14
gtin_length (NumCheck k ∷ []) value g h =
    let same : k ≡ 14 = equal_number k 14 g in
    let own = rw same at h in
    let low : nat_le 14 (length value) ≡ true = and_first (nat_le 14 (length value)) (nat_le (length value) 14) own in
    let high : nat_le (length value) 14 ≡ true = and_second (nat_le 14 (length value)) (nat_le (length value) 14) own in
    grind (arith, nat_tests)
gtin_length _ value g h = absurd (true≢false (sym g))

short_is_gtin : (row : AiRow) → is_row row ≡ true → row.short ≡ true → is_gtin row.parts ≡ true
unfolding is_row
short_is_gtin row h short =
    let front = and_first _ _ h in
    let last : (not row.short || is_gtin row.parts) ≡ true = and_second _ _ front in
    rw short at last

not_short : (row : AiRow) (value : List ℕ) → is_row row ≡ true → parts_error row.parts value ≡ None → (row.short && is_short_gtin value) ≡ false
not_short row value ok fits = elim (true_or_false row.short) [
  | inr t ↦ rw t refl
  | inl t ↦
      let long = gtin_length row.parts value (short_is_gtin row ok t) (has_length row.parts value fits) in
      rw (t, long) refl
]

-- ---- a pair is read again

-- the pair is one of the table
pub record IsOfTable (table : List AiRow) (pair : Pair) : Type 0 where
  pub row : AiRow
  pub found : find (has_code pair.code) table ≡ Some row
  pub row_ok : is_row row ≡ true
  pub fits : parts_error row.parts pair.value ≡ None
  pub in_order : value_error table pair.code pair.value ≡ None

pub of_table : (table : List AiRow) → KeepsRules table → (pair : Pair) → IsInOrder table pair → IsOfTable table pair
of_table table rules pair h = elim (find_by_cases (has_code pair.code) table) [
  | inl found ↦ record {
    row = found.0;
    found = found.1;
    row_ok = found_each (λ row. is_row row ≡ true) (has_code pair.code) table found.0 found.1 (λ j row at. (rules.rows_in_order j row at).0);
    fits = let f = rw found.1 at h.fits in f;
    in_order = h.fits;
  }
  | inr none ↦ absurd (let f = rw none at h.fits in let g : Some Unknown ≡ None = f in cc)
]

module _ (table : List AiRow) (pair : Pair) (of : IsOfTable table pair) where
  pub value_bytes : All IsByte pair.value
  value_bytes = set82_bytes pair.value (value_in_set82 table pair.code pair.value of.in_order)

  code_ok : is_code pair.code ≡ true
  code_ok = let same = equal_bytes pair.code of.row.code (found_passes (has_code pair.code) table of.row of.found) in rw same (row_code of.row of.row_ok)

  pub code_is_digits : are_digits pair.code ≡ true
  code_is_digits = code_digits pair.code code_ok

  pub code_free : are_free pair.code ≡ true
  code_free = digits_free pair.code code_is_digits

  pub code_there : is_empty pair.code ≡ false
  code_there = by pair.code (code_long pair.code code_ok)
    where
      by : (code : List ℕ) → 2 ≤ length code → is_empty code ≡ false
      by [] h = absurd (omega arith)
      by (c ∷ code) h = refl

  pub value_free : are_free (percent_encoded pair.value) ≡ true
  value_free = encoded_free pair.value value_bytes

  pub read_again : (w : Written) → IsSpelled w pair → pair_answer table w ≡ Ok pair
  read_again w spelled =
      let found : Some of.row ≡ find (has_code w.code) table = rw spelled.code (sym of.found) in
      let decoded : pair.value ≡ padded of.row.short (percent_decode w.value) =
      rw (spelled.value, decoded_again pair.value value_bytes, not_short of.row pair.value of.row_ok of.fits) refl in
      let answer = valued table w of.row pair.value None found (rw spelled.value (encoded_escapes pair.value value_bytes)) decoded (rw spelled.code of.in_order) in
      sym answer ∙ ap (λ (code : List ℕ). Ok (record { code = code; value = pair.value })) spelled.code

pub all_read_again : (table : List AiRow) (ws : List Written) (ps : List Pair) → AllSpelled ws ps → Each (IsOfTable table) ps → written_answer table ws ≡ Ok ps
all_read_again table [] [] spelled each = refl
all_read_again table [] (p ∷ ps) spelled each = absurd spelled
all_read_again table (w ∷ ws) [] spelled each = absurd spelled
all_read_again table (w ∷ ws) (p ∷ ps) spelled each =
    rw (read_again table p (each zero p refl) w spelled.0, all_read_again table ws ps spelled.1 (λ j q at. each (suc j) q at)) refl

-- the further parts of a query
abbrev pub tails : List Pair → List ℕ
tails ps = flat_map (λ p. 38 ∷ query_part p) ps

-- ---- the segments of a path that is written

abbrev pub steps : List Pair → List ℕ
steps ps = flat_map path_step ps

-- nothing, or a text that begins with a slash
abbrev pub is_cut : List ℕ → Bool
is_cut [] = true
is_cut (c ∷ _) = is_byte 47 c

before_cut : (a b : List ℕ) → list_any (is_byte 47) a ≡ false → is_cut b ≡ true → before_first (is_byte 47) (a ++ b) ≡ a
before_cut a [] none cut = ap (before_first (is_byte 47)) (append-nil a) ∙ before_none (is_byte 47) a none
before_cut a (c ∷ b) none cut = before_seam (is_byte 47) a b c cut ∙ before_none (is_byte 47) a none

pieces_skip : (test : ℕ → Bool) (at : ℕ) (a b : List ℕ) → list_any test a ≡ false → pieces_behind test at (a ++ b) ≡ pieces_behind test (at + length a) b
pieces_skip test at [] b none = let e : at + 0 ≡ at = omega arith in rw e refl
pieces_skip test at (c ∷ a) b none = elim (true_or_false (test c)) [
  | inl t ↦ absurd (let g = rw t at none in let bad : true ≡ false = g in cc)
  | inr t ↦ let g = rw t at none in let e : at + suc (length a) ≡ at + 1 + length a = omega arith in rw (t, e) (pieces_skip test (at + 1) a b g)
]

-- the two segments of a step
step_pieces : (at : ℕ) (code value b : List ℕ) → list_any (is_byte 47) code ≡ false → list_any (is_byte 47) value ≡ false → is_cut b ≡ true
    → (m : ℕ) × ((n : ℕ) × (pieces_behind (is_byte 47) at (47 ∷ ((code ++ 47 ∷ value) ++ b)) ≡ record { at = at + 1; text = code } ∷ (record { at = m; text = value } ∷ pieces_behind (is_byte 47) n b)))
step_pieces at code value b none_code none_value cut =
    let whole : (code ++ 47 ∷ value) ++ b ≡ code ++ 47 ∷ (value ++ b) = append_assoc code (47 ∷ value) b in
    let first : before_first (is_byte 47) (code ++ 47 ∷ (value ++ b)) ≡ code = before_seam (is_byte 47) code (value ++ b) 47 refl ∙ before_none (is_byte 47) code none_code in
    let place : ℕ = at + 1 + length code + 1 in
    let behind : pieces_behind (is_byte 47) (at + 1) (code ++ 47 ∷ (value ++ b)) ≡ record { at = place; text = value } ∷ pieces_behind (is_byte 47) (place + length value) b =
    pieces_seam (is_byte 47) (at + 1) code (value ++ b) 47 refl
    ∙ rw (no_pieces (is_byte 47) (at + 1) code none_code, before_cut value b none_value cut, pieces_skip (is_byte 47) place value b none_value) refl in
    (place, (place + length value, rw (whole, first, behind) refl))

module _ (table : List AiRow) where
  no_slash_in : (text : List ℕ) → are_free text ≡ true → list_any (is_byte 47) text ≡ false
  no_slash_in text h = no_byte 47 refl text h

  steps_cut : (ps : List Pair) → is_cut (steps ps) ≡ true
  steps_cut [] = refl
  steps_cut (p ∷ ps) = refl

  pub steps_read : (at : ℕ) (ps : List Pair) → Each (IsOfTable table) ps
      → (ws : List Written) × (paired (pieces_behind (is_byte 47) at (steps ps)) ≡ Some ws) × AllSpelled ws ps
  steps_read at [] each = ([], refl, tt)
  steps_read at (p ∷ ps) each =
      let of = each zero p refl in
      let cut = step_pieces at p.code (percent_encoded p.value) (steps ps) (no_slash_in p.code (code_free table p of)) (no_slash_in (percent_encoded p.value) (value_free table p of)) (steps_cut ps) in
      let rest = steps_read cut.1.0 ps (λ j q at_place. each (suc j) q at_place) in
      (record { at = at + 1; code = p.code; value = percent_encoded p.value } ∷ rest.0, rw (cut.1.1, rest.1) refl, (record { code = refl; value = refl }, rest.2))

  -- ---- the parts of a query that is written

  no_separator : (c : ℕ) → separates_parts c ≡ true → is_free c ≡ false
  no_separator c h = elim (true_or_false (c == 38)) [
    | inl t ↦ let same = equal_number c 38 t in ap is_free same
    | inr t ↦ let g = rw t at h in let same = equal_number c 59 g in ap is_free same
  ]

  equals_separates : separates_parts 61 ≡ false
  equals_separates = refl

  part_whole : (p : Pair) → IsOfTable table p → list_any separates_parts (query_part p) ≡ false
  part_whole p of = any_append separates_parts p.code (61 ∷ percent_encoded p.value)
      (none_in separates_parts no_separator p.code (code_free table p of))
      (none_in separates_parts no_separator (percent_encoded p.value) (value_free table p of))

  before_tails : (a : List ℕ) (ps : List Pair) → list_any separates_parts a ≡ false → before_first separates_parts (a ++ tails ps) ≡ a
  before_tails a [] none = ap (before_first separates_parts) (append-nil a) ∙ before_none separates_parts a none
  before_tails a (p ∷ ps) none = before_seam separates_parts a (query_part p ++ tails ps) 38 refl ∙ before_none separates_parts a none

  -- the pair of a part that is written
  part_read : (at : ℕ) (p : Pair) → IsOfTable table p → part_pairs
      (record { at = at; text = query_part p }) ≡ record { at = at; code = p.code; value = percent_encoded p.value } ∷ []
  part_read at p of =
      let none = no_byte 61 refl p.code (code_free table p of) in
      let name : before_first (is_byte 61) (query_part p) ≡ p.code = before_seam (is_byte 61) p.code (percent_encoded p.value) 61 refl ∙ before_none (is_byte 61) p.code none in
      let value : after_first (is_byte 61) (query_part p) ≡ percent_encoded p.value = after_seam (is_byte 61) p.code (percent_encoded p.value) 61 none refl in
      rw (name, value, code_there table p of, code_is_digits table p of) refl

  pub query_read : (at : ℕ) (p : Pair) (ps : List Pair) → Each (IsOfTable table) (p ∷ ps)
      → (ws : List Written) × (flat_map part_pairs (query_parts at (query_part p ++ tails ps)) ≡ ws) × AllSpelled ws (p ∷ ps)
  query_read at p [] each =
      let of = each zero p refl in
      let none = part_whole p of in
      let w : Written = record { at = at; code = p.code; value = percent_encoded p.value } in
      (w ∷ [], rw (before_tails (query_part p) [] none, pieces_skip separates_parts at (query_part p) [] none, part_read at p of) refl, (record { code = refl; value = refl }, tt))
  query_read at p (q ∷ ps) each =
      let of = each zero p refl in
      let none = part_whole p of in
      let w : Written = record { at = at; code = p.code; value = percent_encoded p.value } in
      let rest = query_read (at + length (query_part p) + 1) q ps (λ j r at_place. each (suc j) r at_place) in
      (w ∷ rest.0, rw (before_tails (query_part p) (q ∷ ps) none, pieces_skip separates_parts at (query_part p) (tails (q ∷ ps)) none, part_read at p of, rest.1) refl, (record { code = refl; value = refl }, rest.2))
