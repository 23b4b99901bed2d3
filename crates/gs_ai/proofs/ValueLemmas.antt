-- The facts about a value that is valid for its code, by a table that satisfies the rules.
use Rattle.std.proofs.Common.{◌≡◌, ℕ, zero, suc, ◌+◌, ◌≤◌, ◌==◌, ◌&&◌, nat_le, not, Bool, true, false, if◌then◌else◌, List, [], ◌∷◌, ◌++◌, length, take, drop, find, Option, Some, None, slice_get, refl, sym, ap, subst, ◌∙◌, arith, option_map, inl, inr}
use Rattle.std.specs.List.{list_all}
use Rattle.std.specs.Option.{option_or, option_map_or}
use Rattle.std.proofs.lemmas.Bool.Decides.{nat_tests}
use Rattle.std.proofs.lemmas.List.{length-drop, take-append-drop}
use Rattle.std.proofs.lemmas.List.Sums.{sum_by-cons}
use Rattle.gs_chars.specs.Characters.{are_in_set82, is_in_set82}
use Rattle.gs_chars.proofs.SpelledSets.{digit_in_set82}
use Rattle.gs_chars.proofs.TruthsAndLists.{and_first, and_second, equal_bytes, true_or_false, equal_number}
use Rattle.gs_ai.specs.declared.errors.ValueFault.TheVariants.{Unknown, Length, Char, Check, Date}
use Rattle.gs_ai.specs.declared.part.Part.{Part}
use Rattle.gs_ai.specs.declared.part.Part.TheVariants as part
use Rattle.gs_ai.specs.declared.row.AiRow.{AiRow}
use Rattle.gs_ai.specs.Parts.{greatest_length, is_of_part}
use Rattle.gs_ai.specs.PredefinedLengths.{predefined_length}
use Rattle.gs_ai.specs.Tables.{is_code, keeps_predefined, KeepsRules}
use Rattle.gs_ai.specs.Values.{greatest_of, least_of, has_code, has_length_of, keeps_check, keeps_date, parts_error, pieces, value_error, wrong_character}
use Rattle.gs_ai.proofs.PartLemmas.{neither, not_mapped, wrong-cons, wrong_in}
use Rattle.gs_ai.proofs.RowLemmas.{row_code}
use Rattle.gs_chars.proofs.Searches.{passes_none}
use Rattle.std.proofs.lemmas.Bool.{and_from, not-false}

-- ---- the row of the code

-- the row of a code, and a value without an error by the parts of the row
pub record IsOfRow (rows : List AiRow) (code value : List ℕ) : Type 0 where
  pub row : AiRow
  pub index : ℕ
  pub at : slice_get rows index ≡ Some row
  pub code_is : row.code ≡ code
  pub fits : parts_error row.parts value ≡ None

found_at : {X : Type 0} (t : X → Bool) (xs : List X) (x : X) → find t xs ≡ Some x → (i : ℕ) × (slice_get xs i ≡ Some x) × (t x ≡ true)
found_at t [] x e = absurd (let f : None ≡ Some x = e in cc)
found_at t (y ∷ xs) x e = elim (true_or_false (t y)) [
  | inl h ↦ let f = rw h at e in let same : y ≡ x = cc in (zero, ap Some same, rw (← same) h)
  | inr h ↦ let f = rw h at e in let rest = found_at t xs x f in (suc rest.0, rest.1, rest.2)
]

pub of_row : (rows : List AiRow) (code value : List ℕ) → value_error rows code value ≡ None → IsOfRow rows code value
of_row rows code value e = by (find (has_code code) rows) refl e
  where
    by : (r : Option AiRow) → find (has_code code) rows ≡ r → option_map_or (λ row. parts_error row.parts value) r (Some Unknown) ≡ None
        → IsOfRow rows code value
    by None f h = absurd (let g : Some Unknown ≡ None = h in cc)
    by (Some row) f h =
        let there = found_at (has_code code) rows row f in
        record { row = row; index = there.0; at = there.1; code_is = sym (equal_bytes code row.code there.2); fits = h }

-- ---- its length and its characters

record PartFacts (parts : List Part) (value : List ℕ) : Type 0 where
  length_kept : has_length_of parts value ≡ true
  characters_kept : wrong_character parts value ≡ None

part_facts : (parts : List Part) (value : List ℕ) → parts_error parts value ≡ None → PartFacts parts value
part_facts parts value e = by (has_length_of parts value) (wrong_character parts value) refl refl e
  where
    by : (l : Bool) (w : Option ℕ) → has_length_of parts value ≡ l → wrong_character parts value ≡ w
        → (if not l then Some Length else option_or (option_map Char w) (if not (list_all keeps_check (pieces parts value)) then Some Check else if not (list_all keeps_date (pieces parts value)) then Some Date else None)) ≡ None
        → PartFacts parts value
    by false w f g h = absurd (let k : Some Length ≡ None = h in cc)
    by true (Some i) f g h = absurd (let k : Some (Char i) ≡ None = h in cc)
    by true None f g h = record { length_kept = f; characters_kept = g }

least_kept : (parts : List Part) (value : List ℕ) → has_length_of parts value ≡ true → least_of parts ≤ length value
least_kept parts value h = let n : nat_le (least_of parts) (length value) ≡ true = and_first (nat_le (least_of parts) (length value))
    (nat_le (length value) (greatest_of parts)) h in grind (arith, nat_tests)

greatest_kept : (parts : List Part) (value : List ℕ) → has_length_of parts value ≡ true → length value ≤ greatest_of parts
greatest_kept parts value h = let n : nat_le (length value) (greatest_of parts) ≡ true = and_second (nat_le (least_of parts) (length value))
    (nat_le (length value) (greatest_of parts)) h in grind (arith, nat_tests)

zero_in_set82 : is_in_set82 48 ≡ true
unfolding is_in_set82
zero_in_set82 = refl

-- a character of a part is one of the 82
of_part : (p : Part) (c : ℕ) → is_of_part p c ≡ true → is_in_set82 c ≡ true
of_part part.Zero c h = let e : c ≡ 48 = grind (arith, nat_tests) in ap is_in_set82 e ∙ zero_in_set82
of_part (part.Num _) c h = digit_in_set82 c h
of_part (part.NumCheck _) c h = digit_in_set82 c h
of_part (part.NumUpTo _) c h = digit_in_set82 c h
of_part (part.NumOpt _) c h = digit_in_set82 c h
of_part (part.Set _) c h = h
of_part (part.SetOpt _) c h = h
of_part part.Date c h = digit_in_set82 c h
of_part part.Other c h = absurd (let e : false ≡ true = h in cc)

all_passed : (p : Part) (piece : List ℕ) → wrong_in p piece ≡ None → are_in_set82 piece ≡ true
all_passed p piece e = by piece (λ j c at. passes_none (λ c. not (is_of_part p c)) piece j c e at)
  where
    by : (cs : List ℕ) → ((j c : ℕ) → slice_get cs j ≡ Some c → not (is_of_part p c) ≡ false) → are_in_set82 cs ≡ true
    by [] each = refl
    by (c ∷ cs) each = and_from (is_in_set82 c) (are_in_set82 cs) (of_part p c (not-false (is_of_part p c) (each zero c refl)))
        (by cs (λ j d at. each (suc j) d at))

in_set82_append : (a b : List ℕ) → are_in_set82 a ≡ true → are_in_set82 b ≡ true → are_in_set82 (a ++ b) ≡ true
in_set82_append [] b f g = g
in_set82_append (c ∷ a) b f g = and_from (is_in_set82 c) (are_in_set82 (a ++ b)) (and_first _ _ f) (in_set82_append a b (and_second _ _ f) g)

plain : (parts : List Part) (value : List ℕ) → length value ≤ greatest_of parts → wrong_character parts value ≡ None → are_in_set82 value ≡ true
plain [] [] fits e = refl
plain [] (c ∷ value) fits e = absurd (omega arith)
plain (p ∷ parts) value fits e =
    let both = neither _ _ (sym (wrong-cons p parts value) ∙ e) in
    let sum : greatest_of (p ∷ parts) ≡ greatest_length p + greatest_of parts = sum_by-cons greatest_length p parts in
    let rest : length (drop (greatest_length p) value) ≤ greatest_of parts = omega (arith, length-drop (greatest_length p) value) in
    let front = all_passed p (take (greatest_length p) value) both.0 in
    let back = plain parts (drop (greatest_length p) value) rest (not_mapped _ _ both.1) in
    subst (λ (v : List ℕ). are_in_set82 v ≡ true) (take-append-drop (greatest_length p) value)
    (in_set82_append (take (greatest_length p) value) (drop (greatest_length p) value) front back)

-- a value in order is made of the 82 characters
pub value_in_set82 : (rows : List AiRow) (code value : List ℕ) → value_error rows code value ≡ None → are_in_set82 value ≡ true
value_in_set82 rows code value e =
    let of = of_row rows code value e in
    let facts = part_facts of.row.parts value of.fits in
    plain of.row.parts value (greatest_kept of.row.parts value facts.length_kept) facts.characters_kept

lengths_kept : (row : AiRow) (n : ℕ) → keeps_predefined row ≡ true → predefined_length row.code ≡ Some n
    → (least_of row.parts ≡ greatest_of row.parts) × (length row.code + greatest_of row.parts ≡ n)
unfolding keeps_predefined
lengths_kept row n h e =
    let f : ((least_of row.parts == greatest_of row.parts) && (length row.code + greatest_of row.parts == n)) ≡ true = rw e at h in
    (equal_number _ _ (and_first _ _ f), equal_number _ _ (and_second _ _ f))

module _ (rows : List AiRow) (rules : KeepsRules rows) (code value : List ℕ) (fits : value_error rows code value ≡ None) where
  -- code and value in order have the predefined length of the code together
  pub predefined_kept : (n : ℕ) → predefined_length code ≡ Some n → length code + length value ≡ n
  predefined_kept n e =
      let of = of_row rows code value fits in
      let facts = part_facts of.row.parts value of.fits in
      let own : predefined_length of.row.code ≡ Some n = rw of.code_is e in
      let kept = lengths_kept of.row n (rules.rows_in_order of.index of.row of.at).1 own in
      let low = least_kept of.row.parts value facts.length_kept in
      let high = greatest_kept of.row.parts value facts.length_kept in
      let size : length of.row.code ≡ length code = ap length of.code_is in
      let same = kept.0 in
      let sum = kept.1 in
      omega arith

  -- the code of a value in order is the code of a row
  pub code_of_row : is_code code ≡ true
  code_of_row =
      let of = of_row rows code value fits in
      subst (λ (c : List ℕ). is_code c ≡ true) of.code_is (row_code of.row (rules.rows_in_order of.index of.row of.at).0)
