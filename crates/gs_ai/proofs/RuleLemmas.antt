-- The errors of rows, row by row.
use Rattle.std.proofs.Common.{◌≡◌, ℕ, zero, suc, ◌+◌, ◌<◌, not, Bool, true, false, cond, List, [], ◌∷◌, ◌++◌, length, take, map, filter, position, Some, None, slice_get, get_or, refl, sym, ap, ◌∙◌, arith, ◌⊎◌, inl, inr, true≢false}
use Rattle.std.specs.List.{flat_map, enumerate_from, list_any, list_all}
use Rattle.gs_ai.specs.declared.errors.AiFault.{AiFault}
use Rattle.gs_ai.specs.declared.errors.AiFault.TheVariants.{BadAi, CodePrefix, KeyIsQualifier, PredefinedLength}
use Rattle.gs_ai.specs.declared.row.AiRow.{AiRow}
use Rattle.gs_ai.specs.Tables.{is_row, keeps_predefined, begins, clash, is_key_of, is_qualifier_of, row_errors, list_errors, table_errors, KeepsRules}
use Rattle.gs_chars.proofs.TruthsAndLists.{first_of_front, get_take, nil_parts, read_at}
use Rattle.gs_chars.proofs.Searches.{cons_some, cons_none}
use Rattle.std.proofs.lemmas.Bool.{or_parts, not-false}
use Rattle.gs_chars.specs.Answers.{error_if}

-- ---- the first of the errors of all rows

-- the errors of the rows before, none, and those of the row at a place
pub first_at : {X E : Type 0} (f : ℕ × X → List E) (n : ℕ) (xs : List X) (i : ℕ) (x : X) (e : E) → slice_get xs i ≡ Some x
    → flat_map f (enumerate_from n (take i xs)) ≡ [] → slice_get (f (n + i, x)) 0 ≡ Some e
    → slice_get (flat_map f (enumerate_from n xs)) 0 ≡ Some e
first_at f n [] i x e at none h = absurd (let g : None ≡ Some x = at in cc)
first_at f n (y ∷ ys) zero x e at none h =
    let same : y ≡ x = cc in
    let here : n + 0 ≡ n = omega arith in
    let h' = rw here at h in
    rw same (first_of_front (f (n, x)) (flat_map f (enumerate_from (n + 1) ys)) e h')
first_at f n (y ∷ ys) (suc i) x e at none h =
    let parts = nil_parts (f (n, y)) (flat_map f (enumerate_from (n + 1) (take i ys))) none in
    let here : n + suc i ≡ n + 1 + i = omega arith in
    let h' = rw here at h in
    rw parts.0 (first_at f (n + 1) ys i x e at parts.1 h')

-- one more row without an error
pub none_more : {X E : Type 0} (f : ℕ × X → List E) (n : ℕ) (xs : List X) (i : ℕ) (x : X) → slice_get xs i ≡ Some x
    → flat_map f (enumerate_from n (take i xs)) ≡ [] → f (n + i, x) ≡ [] → flat_map f (enumerate_from n (take (suc i) xs)) ≡ []
none_more f n [] i x at none h = absurd (let g : None ≡ Some x = at in cc)
none_more f n (y ∷ ys) zero x at none h =
    let same : y ≡ x = cc in
    let here : n + 0 ≡ n = omega arith in
    let h' = rw here at h in
    rw (same, h') refl
none_more f n (y ∷ ys) (suc i) x at none h =
    let parts = nil_parts (f (n, y)) (flat_map f (enumerate_from (n + 1) (take i ys))) none in
    let here : n + suc i ≡ n + 1 + i = omega arith in
    let h' = rw here at h in
    rw parts.0 (none_more f (n + 1) ys i x at parts.1 h')

-- no row has an error
pub none_at : {X E : Type 0} (f : ℕ × X → List E) (n : ℕ) (xs : List X) → flat_map f (enumerate_from n xs) ≡ [] → (i : ℕ) (x : X)
    → slice_get xs i ≡ Some x → f (n + i, x) ≡ []
none_at f n [] none i x at = absurd (let g : None ≡ Some x = at in cc)
none_at f n (y ∷ ys) none zero x at =
    let parts = nil_parts (f (n, y)) (flat_map f (enumerate_from (n + 1) ys)) none in
    let same : y ≡ x = cc in
    let here : n + 0 ≡ n = omega arith in
    rw (here, ← same) parts.0
none_at f n (y ∷ ys) none (suc i) x at =
    let parts = nil_parts (f (n, y)) (flat_map f (enumerate_from (n + 1) ys)) none in
    let here : n + suc i ≡ n + 1 + i = omega arith in
    rw here (none_at f (n + 1) ys parts.1 i x at)

-- ---- the rows that clash

abbrev clashes : {X E : Type 0} (test : X → Bool) (f : ℕ → E) (n : ℕ) → List X → List E
clashes test f n xs = map (λ other. f other.0) (filter (λ other. test other.1) (enumerate_from n xs))

clash_first : {X E : Type 0} (test : X → Bool) (f : ℕ → E) (n : ℕ) (xs : List X) (ys : List E) (j : ℕ) → position test xs ≡ Some j
    → slice_get (clashes test f n xs ++ ys) 0 ≡ Some (f (n + j))
clash_first test f n [] ys j e = absurd (let g : None ≡ Some j = e in cc)
clash_first test f n (x ∷ xs) ys j e = elim (cons_some test x xs j e) [
  | inl t ↦ let here : n + j ≡ n = let z = t.1 in omega arith in rw (t.0, here) refl
  | inr u ↦ let here : n + j ≡ n + 1 + u.1.0 = let z = u.1.1 in omega arith in rw (u.0, here) (clash_first test f (n + 1) xs ys u.1.0 u.1.2)
]

clash_none : {X E : Type 0} (test : X → Bool) (f : ℕ → E) (n : ℕ) (xs : List X) → position test xs ≡ None → clashes test f n xs ≡ []
clash_none test f n [] e = refl
clash_none test f n (x ∷ xs) e = let h = cons_none test x xs e in rw h.0 (clash_none test f (n + 1) xs h.1)

no_clash : {X E : Type 0} (test : X → Bool) (f : ℕ → E) (n : ℕ) (xs : List X) → clashes test f n xs ≡ [] → (j : ℕ) (x : X)
    → slice_get xs j ≡ Some x → test x ≡ false
no_clash test f n [] none j x at = absurd (let g : None ≡ Some x = at in cc)
no_clash test f n (y ∷ ys) none j x at = by (test y) refl none (no_clash test f (n + 1) ys) j at
  where
    by : (b : Bool) → test y ≡ b
        → map (λ other. f other.0) (cond b ((n, y) ∷ filter (λ other. test other.1) (enumerate_from (n + 1) ys)) (filter (λ other. test other.1) (enumerate_from (n + 1) ys))) ≡ []
        → (clashes test f (n + 1) ys ≡ [] → (j : ℕ) (x : _) → slice_get ys j ≡ Some x → test x ≡ false) → (j : ℕ)
        → slice_get (y ∷ ys) j ≡ Some x → test x ≡ false
    by true t none rest j at = absurd (cc)
    by false t none rest zero at = let same : y ≡ x = cc in rw (← same) t
    by false t none rest (suc j) at = rest none j x at

-- ---- the errors of one row

pub row_out_of_form : (i : ℕ) (earlier : List AiRow) (row : AiRow) → is_row row ≡ false → slice_get (row_errors i earlier row) 0 ≡ Some (BadAi i)
unfolding row_errors
row_out_of_form i earlier row h = rw h refl

abbrev clashing : ℕ → List AiRow → AiRow → List AiFault
clashing i earlier row = clashes (λ other. clash other.code row.code) (λ j. CodePrefix j i) 0 earlier

pub row_clashes : (i j : ℕ) (earlier : List AiRow) (row : AiRow) → is_row row ≡ true
    → position (λ other. clash other.code row.code) earlier ≡ Some j → slice_get (row_errors i earlier row) 0 ≡ Some (CodePrefix j i)
unfolding row_errors
row_clashes i j earlier row h p = rw h (clash_first (λ other. clash other.code row.code) (λ j. CodePrefix j i) 0 earlier (error_if (not (keeps_predefined row)) (PredefinedLength i)) j p ∙ ap Some (ap (λ k. CodePrefix k i) (omega arith)))

pub row_has_other_length : (i : ℕ) (earlier : List AiRow) (row : AiRow) → is_row row ≡ true
    → position (λ other. clash other.code row.code) earlier ≡ None → keeps_predefined row ≡ false
    → slice_get (row_errors i earlier row) 0 ≡ Some (PredefinedLength i)
unfolding row_errors
row_has_other_length i earlier row h p k = rw (h, clash_none (λ other. clash other.code row.code) (λ j. CodePrefix j i) 0 earlier p, k) refl

pub row_in_order : (i : ℕ) (earlier : List AiRow) (row : AiRow) → is_row row ≡ true
    → position (λ other. clash other.code row.code) earlier ≡ None → keeps_predefined row ≡ true → row_errors i earlier row ≡ []
unfolding row_errors
row_in_order i earlier row h p k = rw (h, clash_none (λ other. clash other.code row.code) (λ j. CodePrefix j i) 0 earlier p, k) refl

-- ---- a table without errors satisfies the rules

error_if_nil : (b : Bool) (error : AiFault) → error_if b error ≡ [] → b ≡ false
error_if_nil true error e = absurd (let f : error ∷ [] ≡ [] = e in cc)
error_if_nil false error e = refl

record RowFacts (i : ℕ) (earlier : List AiRow) (row : AiRow) : Type 0 where
  in_order : is_row row ≡ true
  apart : (j : ℕ) (other : AiRow) → slice_get earlier j ≡ Some other → clash other.code row.code ≡ false
  length_kept : keeps_predefined row ≡ true

row_facts : (i : ℕ) (earlier : List AiRow) (row : AiRow) → row_errors i earlier row ≡ [] → RowFacts i earlier row
unfolding row_errors
row_facts i earlier row e =
    let outer = nil_parts (error_if (not (is_row row)) (BadAi i) ++ clashing i earlier row) (error_if (not (keeps_predefined row)) (PredefinedLength i)) e in
    let inner = nil_parts (error_if (not (is_row row)) (BadAi i)) (clashing i earlier row) outer.0 in
    record {
      in_order = not-false _ (error_if_nil _ _ inner.0);
      apart = no_clash (λ other. clash other.code row.code) (λ j. CodePrefix j i) 0 earlier inner.1;
      length_kept = not-false _ (error_if_nil _ _ outer.1);
    }

list_facts : (rows : List AiRow) (i : ℕ) (row : AiRow) → list_errors rows i row ≡ []
    → (list_all (is_qualifier_of rows) row.qualifiers ≡ true) × (list_any (is_key_of rows) row.qualifiers ≡ false)
unfolding list_errors
list_facts rows i row e =
    let both = nil_parts (error_if (list_any (is_key_of rows) row.qualifiers) (KeyIsQualifier i)) (error_if (not (list_all (is_qualifier_of rows) row.qualifiers)) (BadAi i)) e in
    (not-false _ (error_if_nil _ _ both.1), error_if_nil _ _ both.0)

facts_at : (rows : List AiRow) → table_errors rows ≡ [] → (i : ℕ) (row : AiRow) → slice_get rows i ≡ Some row → RowFacts i (take i rows) row
unfolding table_errors
facts_at rows e i row at =
    let both = nil_parts (flat_map (λ row. row_errors row.0 (take row.0 rows) row.1) (enumerate_from 0 rows)) (flat_map (λ row. list_errors rows row.0 row.1) (enumerate_from 0 rows)) e in
    let zero_plus : 0 + i ≡ i = omega arith in
    row_facts i (take i rows) row (rw zero_plus at (none_at (λ row. row_errors row.0 (take row.0 rows) row.1) 0 rows both.0 i row at))

lists_at : (rows : List AiRow) → table_errors rows ≡ [] → (i : ℕ) (row : AiRow) → slice_get rows i ≡ Some row
    → (list_all (is_qualifier_of rows) row.qualifiers ≡ true) × (list_any (is_key_of rows) row.qualifiers ≡ false)
unfolding table_errors
lists_at rows e i row at =
    let both = nil_parts (flat_map (λ row. row_errors row.0 (take row.0 rows) row.1) (enumerate_from 0 rows)) (flat_map (λ row. list_errors rows row.0 row.1) (enumerate_from 0 rows)) e in
    list_facts rows (0 + i) row (none_at (λ row. list_errors rows row.0 row.1) 0 rows both.1 i row at)

clash_sides : (a b : List ℕ) → clash a b ≡ false → (begins a b ≡ false) × (begins b a ≡ false)
unfolding clash
clash_sides a b h = or_parts (begins a b) (begins b a) h

order : (i j : ℕ) → (i < j) ⊎ ((j < i) ⊎ (i ≡ j))
order zero zero = inr (inr refl)
order zero (suc j) = inl (omega arith)
order (suc i) zero = inr (inl (omega arith))
order (suc i) (suc j) = elim (order i j) [ inl h ↦ inl (omega arith) | inr k ↦ elim k [ inl h ↦ inr (inl (omega arith)) | inr e ↦ inr (inr (ap suc e)) ] ]

apart : (rows : List AiRow) → table_errors rows ≡ [] → (i j : ℕ) (a b : AiRow) → slice_get rows i ≡ Some a → slice_get rows j ≡ Some b
    → begins a.code b.code ≡ true → i ≡ j
apart rows e i j a b at there h = elim (order i j) [
  | inl low ↦ let facts = facts_at rows e j b there in
      let c = facts.apart i a (get_take rows j i low ∙ at) in
      absurd (true≢false (sym h ∙ (clash_sides a.code b.code c).0))
  | inr k ↦ elim k [
    | inl low ↦ let facts = facts_at rows e i a at in
        let c = facts.apart j b (get_take rows i j low ∙ there) in
        absurd (true≢false (sym h ∙ (clash_sides b.code a.code c).1))
    | inr same ↦ same
  ]
]

pub rules_kept : (rows : List AiRow) → table_errors rows ≡ [] → KeepsRules rows
rules_kept rows e = record {
  rows_in_order = λ i row at. let facts = facts_at rows e i row at in (facts.in_order, facts.length_kept);
  codes_apart = apart rows e;
  lists_qualifiers = lists_at rows e;
}

-- ---- the answers of the checks

pub table_first : (rows : List AiRow) (e : AiFault)
    → slice_get (flat_map (λ row. row_errors row.0 (take row.0 rows) row.1) (enumerate_from 0 rows)) 0 ≡ Some e
    → slice_get (table_errors rows) 0 ≡ Some e
unfolding table_errors
table_first rows e h = first_of_front (flat_map (λ row. row_errors row.0 (take row.0 rows) row.1) (enumerate_from 0 rows))
    (flat_map (λ row. list_errors rows row.0 row.1) (enumerate_from 0 rows)) e h

pub table_rest : (rows : List AiRow) → flat_map (λ row. row_errors row.0 (take row.0 rows) row.1) (enumerate_from 0 rows) ≡ []
    → table_errors rows ≡ flat_map (λ row. list_errors rows row.0 row.1) (enumerate_from 0 rows)
unfolding table_errors
table_rest rows h = rw h

pub first_of_rows : (rows : List AiRow) (i : ℕ) (row : AiRow) (e : AiFault) → i < length rows → row ≡ get_or rows i row
    → flat_map (λ row. row_errors row.0 (take row.0 rows) row.1) (enumerate_from 0 (take i rows)) ≡ []
    → slice_get (row_errors i (take i rows) row) 0 ≡ Some e
    → slice_get (flat_map (λ row. row_errors row.0 (take row.0 rows) row.1) (enumerate_from 0 rows)) 0 ≡ Some e
first_of_rows rows i row e low read none h =
    let at = read_at rows i row low read in
    let zero_plus : i ≡ 0 + i = omega arith in
    first_at (λ row. row_errors row.0 (take row.0 rows) row.1) 0 rows i row e at none (rw zero_plus at h)

pub first_of_lists : (rows : List AiRow) (i : ℕ) (row : AiRow) (e : AiFault) → i < length rows → row ≡ get_or rows i row
    → flat_map (λ row. list_errors rows row.0 row.1) (enumerate_from 0 (take i rows)) ≡ [] → slice_get (list_errors rows i row) 0 ≡ Some e
    → slice_get (flat_map (λ row. list_errors rows row.0 row.1) (enumerate_from 0 rows)) 0 ≡ Some e
first_of_lists rows i row e low read none h =
    let at = read_at rows i row low read in
    let zero_plus : i ≡ 0 + i = omega arith in
    first_at (λ row. list_errors rows row.0 row.1) 0 rows i row e at none (rw zero_plus at h)

pub more_rows : (rows : List AiRow) (i : ℕ) (row : AiRow) → i < length rows → row ≡ get_or rows i row
    → flat_map (λ row. row_errors row.0 (take row.0 rows) row.1) (enumerate_from 0 (take i rows)) ≡ [] → row_errors i (take i rows) row ≡ []
    → flat_map (λ row. row_errors row.0 (take row.0 rows) row.1) (enumerate_from 0 (take (i + 1) rows)) ≡ []
more_rows rows i row low read none h =
    let at = read_at rows i row low read in
    let zero_plus : i ≡ 0 + i = omega arith in
    let next : i + 1 ≡ suc i = omega arith in
    rw next (none_more (λ row. row_errors row.0 (take row.0 rows) row.1) 0 rows i row at none (rw zero_plus at h))

pub more_lists : (rows : List AiRow) (i : ℕ) (row : AiRow) → i < length rows → row ≡ get_or rows i row
    → flat_map (λ row. list_errors rows row.0 row.1) (enumerate_from 0 (take i rows)) ≡ [] → list_errors rows i row ≡ []
    → flat_map (λ row. list_errors rows row.0 row.1) (enumerate_from 0 (take (i + 1) rows)) ≡ []
more_lists rows i row low read none h =
    let at = read_at rows i row low read in
    let zero_plus : i ≡ 0 + i = omega arith in
    let next : i + 1 ≡ suc i = omega arith in
    rw next (none_more (λ row. list_errors rows row.0 row.1) 0 rows i row at none (rw zero_plus at h))
