-- The rows by the first two digits of their codes.
use Rattle.std.proofs.Common.{◌≡◌, ℕ, zero, suc, ◌+◌, ◌-◌, ◌*◌, ◌<◌, ◌≤◌, Bool, true, false, List, [], ◌∷◌, ◌++◌, length, take, map, filter, position, Some, None, bytes_eq, get_or, slice_get, drop, drop-cons, append_assoc, append-nil, add-one, refl, sym, ap, ◌∙◌, arith, inl, inr, true≢false}
use Rattle.std.specs.List.{enumerate_from}
use Rattle.std.proofs.Math.Seq.{drop-length}
use Rattle.std.proofs.lemmas.Bool.Decides.{nat_tests}
use Rattle.std.proofs.lemmas.List.{take_all}
use borrow.Author.Count.{below_more}
use Rattle.gs_chars.specs.Characters.{is_digit, are_digits}
use Rattle.gs_chars.proofs.TruthsAndLists.{true_or_false, equal_bytes, read_at, same_bytes}
use Rattle.gs_ai.specs.declared.row.AiRow.{AiRow}
use Rattle.gs_ai.specs.Tables.{begins, is_code, row_at, KeepsRules}
use Rattle.gs_ai.specs.TablesSupport.{places_at, starts_at, two_digits, AreStarts}
use Rattle.gs_ai.specs.Values.{has_code}
use Rattle.gs_ai.proofs.RowLemmas.{and_left, and_right, code_digits, code_long, row_code}
use Rattle.gs_ai.proofs.TableLemmas.{begins_itself, begun, one_begins}
use Rattle.gs_chars.proofs.Searches.{passes_none, position_is, position_none, position_some}
use Rattle.std.proofs.lemmas.Bool.{false_from_ne_true}
use Rattle.std.proofs.lemmas.Option.{slice_get_within}

-- ---- one list of places more

get_front : {X : Type 0} (xs ys : List X) (k : ℕ) → k < length xs → slice_get (xs ++ ys) k ≡ slice_get xs k
get_front [] ys k h = absurd (omega arith)
get_front (x ∷ xs) ys zero h = refl
get_front (x ∷ xs) ys (suc k) h = get_front xs ys k (omega arith)

get_last : {X : Type 0} (xs : List X) (x : X) → slice_get (xs ++ x ∷ []) (length xs) ≡ Some x
get_last [] x = refl
get_last (y ∷ xs) x = get_last xs x

pub more_starts : (rows : List AiRow) (starts : List (List ℕ)) (i : ℕ) → length starts ≡ i
    → ((k : ℕ) → k < i → slice_get starts k ≡ Some (places_at k rows)) → (k : ℕ) → k < i + 1
    → slice_get (starts ++ places_at i rows ∷ []) k ≡ Some (places_at k rows)
more_starts rows starts i len done =
    below_more (λ k. slice_get (starts ++ places_at i rows ∷ []) k ≡ Some (places_at k rows)) i
    (λ k low. get_front starts (places_at i rows ∷ []) k (omega arith) ∙ done k low)
    (rw (← len) (get_last starts (places_at (length starts) rows)))

-- ---- the places of rows that pass a test

abbrev places_of : {X : Type 0} → (X → Bool) → ℕ → List X → List ℕ
places_of t n xs = map (λ place. place.0) (filter (λ place. t place.1) (enumerate_from n xs))

module _ {X : Type 0} (t : X → Bool) (xs : List X) (i : ℕ) (x : X) (low : i < length xs) (at : x ≡ get_or xs i x) where
  left : drop i xs ≡ x ∷ drop (i + 1) xs
  left = rw add-one (drop-cons xs i x low ∙ ap (λ c. c ∷ drop (suc i) xs) (sym at))

  pub place_found : (places : List ℕ) → t x ≡ true → (places ++ i ∷ []) ++ places_of t (i + 1) (drop (i + 1) xs) ≡ places ++ places_of t i (drop i xs)
  place_found places h = rw (left, h) (append_assoc places (i ∷ []) (places_of t (i + 1) (drop (i + 1) xs)))

  pub place_passed : (places : List ℕ) → t x ≡ false → places ++ places_of t (i + 1) (drop (i + 1) xs) ≡ places ++ places_of t i (drop i xs)
  place_passed places h = rw (left, h) refl

pub places_done : {X : Type 0} (t : X → Bool) (xs : List X) (places : List ℕ) → places ++ places_of t (length xs) (drop (length xs) xs) ≡ places
places_done t xs places = rw (drop-length xs) (append-nil places)

later_place : (n m k i : ℕ) (ks : List ℕ) → ((l : ℕ) → slice_get ks l ≡ Some i → i < n + 1 + m) → slice_get (n ∷ ks) k ≡ Some i → i < n + suc m
later_place n m zero i ks low e = let same : n ≡ i = cc in omega arith
later_place n m (suc k) i ks low e = let less = low k e in omega arith

place_within : {X : Type 0} (t : X → Bool) (n : ℕ) (xs : List X) (k i : ℕ) → slice_get (places_of t n xs) k ≡ Some i → i < n + length xs
place_within t n [] k i at = absurd (let g : None ≡ Some i = at in cc)
place_within t n (x ∷ xs) k i at = elim (true_or_false (t x)) [
  | inl h ↦ let f = rw h at at in later_place n (length xs) k i (places_of t (n + 1) xs) (λ l e. place_within t (n + 1) xs l i e) f
  | inr h ↦ let f = rw h at at in let low = place_within t (n + 1) xs k i f in omega arith
]

place_there : {X : Type 0} (t : X → Bool) (n : ℕ) (xs : List X) (j : ℕ) (x : X) → slice_get xs j ≡ Some x → t x ≡ true
    → (k : ℕ) × (slice_get (places_of t n xs) k ≡ Some (n + j))
place_there t n [] j x at h = absurd (let g : None ≡ Some x = at in cc)
place_there t n (y ∷ xs) zero x at h = let same : y ≡ x = cc in let here : t y ≡ true = rw same h in let e : n ≡ n + 0 = omega arith in rw here (zero, ap Some e)
place_there t n (y ∷ xs) (suc j) x at h =
    let rest = place_there t (n + 1) xs j x at h in
    let e : n + 1 + j ≡ n + suc j = omega arith in
    let found = rw e at rest.1 in
    elim (true_or_false (t y)) [
      | inl here ↦ rw here (suc rest.0, found)
      | inr here ↦ rw here (rest.0, found)
    ]

-- ---- the digits at the start of a text that begins with a code

record SameDigits (code text : List ℕ) : Type 0 where
  number : ℕ
  of_code : two_digits code ≡ Some number
  of_text : two_digits text ≡ Some number

same_digits : (code text : List ℕ) → is_code code ≡ true → begins code text ≡ true → SameDigits code text
same_digits code text ok front = by code text (code_long code ok) (code_digits code ok) (begun code text front)
  where
    by : (code text : List ℕ) → 2 ≤ length code → are_digits code ≡ true → code ≡ take (length code) text → SameDigits code text
    by [] text long digits e = absurd (omega arith)
    by (a ∷ []) text long digits e = absurd (omega arith)
    by (a ∷ b ∷ code) [] long digits e = absurd (let g : a ∷ b ∷ code ≡ [] = e in cc)
    by (a ∷ b ∷ code) (c ∷ []) long digits e = absurd (let g : a ∷ b ∷ code ≡ c ∷ [] = e in cc)
    by (a ∷ b ∷ code) (c ∷ d ∷ text) long digits e =
        let g : a ∷ b ∷ code ≡ c ∷ d ∷ take (length code) text = e in
        let first : a ≡ c = cc in
        let second : b ≡ d = cc in
        let one : is_digit a ≡ true = and_left _ _ digits in
        let two : is_digit b ≡ true = and_left _ _ (and_right _ _ digits) in
        let three : is_digit c ≡ true = rw (← first) one in
        let four : is_digit d ≡ true = rw (← second) two in
        record { number = 10 * (a - 48) + (b - 48); of_code = rw (one, two) refl; of_text = rw (three, four, first, second) refl }

starts_true : (start : ℕ) (row : AiRow) → two_digits row.code ≡ Some start → starts_at start row ≡ true
starts_true start row e = rw e (grind (arith, nat_tests))

-- ---- places as the code reads them

pub start_within : (rows : List AiRow) (starts : List (List ℕ)) → AreStarts rows starts → (start : ℕ) → start < 100 → start < length starts
start_within rows starts are start low = slice_get_within starts start (places_at start rows) (are.lists start low)

pub start_read : (rows : List AiRow) (starts : List (List ℕ)) → AreStarts rows starts → (start : ℕ) (places : List ℕ) → start < 100
    → places ≡ get_or starts start places → places ≡ places_at start rows
start_read rows starts are start places low read =
    let e : Some places ≡ Some (places_at start rows) = sym (read_at starts start places (start_within rows starts are start low) read) ∙ are.lists start low in
    cc

pub place_read : (places : List ℕ) (k : ℕ) → k < length places → slice_get places k ≡ Some (get_or places k 0)
place_read [] k h = absurd (omega arith)
place_read (i ∷ places) zero h = refl
place_read (i ∷ places) (suc k) h = place_read places k (omega arith)

-- one place more whose row's code does not begin the text
pub one_place_more : (rows : List AiRow) (places : List ℕ) (text : List ℕ) (n : ℕ) (row : AiRow) → n < length places
    → slice_get rows (get_or places n 0) ≡ Some row → begins row.code text ≡ false
    → ((k i : ℕ) (r : AiRow) → k < n → slice_get places k ≡ Some i → slice_get rows i ≡ Some r → begins r.code text ≡ false)
    → (k i : ℕ) (r : AiRow) → k < n + 1 → slice_get places k ≡ Some i → slice_get rows i ≡ Some r → begins r.code text ≡ false
one_place_more rows places text n row low at differs before k i r h e there =
    below_more (λ m. (j : ℕ) (s : AiRow) → slice_get places m ≡ Some j → slice_get rows j ≡ Some s → begins s.code text ≡ false) n
    (λ m less j s f g. before m j s less f g) (λ j s f g.
    let place : Some j ≡ Some (get_or places n 0) = sym f ∙ place_read places n low in
    let same : j ≡ get_or places n 0 = cc in
    let e : Some s ≡ Some row = sym g ∙ ap (slice_get rows) same ∙ at in
    let is : s ≡ row = cc in
    rw is differs) k h i r e there

-- ---- the row whose code begins a text

module _ (rows : List AiRow) (rules : KeepsRules rows) (text : List ℕ) where
  digits_of : (j : ℕ) (row : AiRow) → slice_get rows j ≡ Some row → begins row.code text ≡ true → SameDigits row.code text
  digits_of j row at front = same_digits row.code text (row_code row (rules.rows_in_order j row at).0) front

  pub no_digits : None ≡ two_digits text → None ≡ row_at rows text
  no_digits none = sym (position_none (λ r. begins r.code text) rows (λ j row at. false_from_ne_true (begins row.code text) (λ front.
      let same = digits_of j row at front in
      let g : None ≡ Some same.number = none ∙ same.of_text in cc)))

  module _ (start : ℕ) (digits : Some start ≡ two_digits text) (places : List ℕ) (are : places ≡ places_at start rows) where
    pub place_low : (k i : ℕ) → slice_get places k ≡ Some i → i < length rows
    place_low k i at = let low = place_within (starts_at start) 0 rows k i (rw (← are) at) in omega arith

    pub row_at_place : (k : ℕ) (row : AiRow) → k < length places → row ≡ get_or rows (get_or places k 0) row → slice_get rows (get_or places k 0) ≡ Some row
    row_at_place k row low read = read_at rows (get_or places k 0) row (place_low k (get_or places k 0) (place_read places k low)) read

    pub found_at : (i : ℕ) (row : AiRow) → slice_get rows i ≡ Some row → begins row.code text ≡ true → Some i ≡ row_at rows text
    found_at i row at front = sym (position_is (λ r. begins r.code text) rows i row at front (λ j other low there. false_from_ne_true (begins other.code text) (λ other_front.
        let e = one_begins rows rules text j i other row there at other_front front in
        absurd (omega arith))))

    pub none_at : ((k i : ℕ) (row : AiRow) → slice_get places k ≡ Some i → slice_get rows i ≡ Some row → begins row.code text ≡ false) → None ≡ row_at rows text
    none_at none = sym (position_none (λ r. begins r.code text) rows (λ j row at. false_from_ne_true (begins row.code text) (λ front.
        let same = digits_of j row at front in
        let number : same.number ≡ start = let g : Some same.number ≡ Some start = sym same.of_text ∙ sym digits in cc in
        let of_start : two_digits row.code ≡ Some start = same.of_code ∙ ap Some number in
        let place = place_there (starts_at start) 0 rows j row at (starts_true start row of_start) in
        let here : 0 + j ≡ j = omega arith in
        let listed = rw here at place.1 in
        true≢false (sym front ∙ none place.0 j row (rw are listed) at))))

-- ---- the row with a code

module _ (rows : List AiRow) (rules : KeepsRules rows) (code : List ℕ) where
  itself : (row : AiRow) → has_code code row ≡ true → begins row.code code ≡ true
  itself row same = begins_itself row.code code (sym (equal_bytes code row.code same))

  pub code_nowhere : None ≡ row_at rows code → None ≡ position (has_code code) rows
  code_nowhere none = sym (position_none (has_code code) rows (λ j row at. false_from_ne_true (has_code code row) (λ same.
      true≢false (sym (itself row same) ∙ passes_none (λ r. begins r.code code) rows j row (sym none) at))))

  module _ (i : ℕ) (row : AiRow) (at : slice_get rows i ≡ Some row) (found : Some i ≡ row_at rows code) where
    front : begins row.code code ≡ true
    front =
        let some = position_some (λ r. begins r.code code) rows i (sym found) in
        let e : Some row ≡ Some some.0 = sym at ∙ some.1 in
        let same : row ≡ some.0 = cc in
        rw same some.2

    -- the row's code is the code if both are equally long
    pub code_by_length : length row.code ≡ length code → true ≡ bytes_eq row.code code
    code_by_length e =
        let whole : take (length row.code) code ≡ code = take_all (length row.code) code (omega (arith, e)) in
        let same : row.code ≡ code = begun row.code code front ∙ whole in
        rw same (sym (same_bytes code))

    pub length_differs : (length row.code ≡ length code → ⊥) → false ≡ bytes_eq row.code code
    length_differs differs = sym (false_from_ne_true (bytes_eq row.code code) (λ own. differs (ap length (equal_bytes row.code code own))))

    -- no other row has the code
    alone : (j : ℕ) (other : AiRow) → slice_get rows j ≡ Some other → has_code code other ≡ true → j ≡ i
    alone j other there same = one_begins rows rules code j i other row there at (itself other same) front

    pub code_here : true ≡ bytes_eq row.code code → Some i ≡ position (has_code code) rows
    code_here same =
        let e = equal_bytes row.code code (sym same) in
        let has : has_code code row ≡ true = rw e (same_bytes code) in
        sym (position_is (has_code code) rows i row at has (λ j other low there. false_from_ne_true (has_code code other) (λ own. let bad = alone j other there own in absurd (omega arith))))

    pub code_absent : false ≡ bytes_eq row.code code → None ≡ position (has_code code) rows
    code_absent differs = sym (position_none (has_code code) rows (λ j other there. false_from_ne_true (has_code code other) (λ own.
        let e : Some other ≡ Some row = sym there ∙ ap (slice_get rows) (alone j other there own) ∙ at in
        let same : other ≡ row = cc in
        let code_same : row.code ≡ code = ap (λ (r : AiRow). r.code) (sym same) ∙ sym (equal_bytes code other.code own) in
        let test : bytes_eq row.code code ≡ true = rw code_same (same_bytes code) in
        true≢false (sym test ∙ sym differs))))
