-- The facts that the rules of a table give about its codes.
use Rattle.std.proofs.Common.{Bool, ◌≡◌, ℕ, ◌<◌, ◌≤◌, true, false, List, length, take, Some, None, find, ◌&&◌, slice_get, get_or, refl, sym, ap, ◌∙◌, arith, zero, suc, [], ◌∷◌, ◌⊎◌, inl, inr}
use Rattle.std.specs.List.{list_any}
use Rattle.std.specs.Option.{option_and_then}
use Rattle.std.proofs.lemmas.List.{take_all}
use Rattle.gs_ai.specs.declared.row.AiRow.{AiRow}
use Rattle.gs_ai.specs.PredefinedLengths.{predefined_length}
use Rattle.gs_ai.specs.Values.{has_code, parts_error, row_error}
use Rattle.gs_ai.specs.Tables.{begins, is_key, is_key_of, is_row, KeepsRules, is_empty}
use Rattle.gs_chars.proofs.TruthsAndLists.{or_false, true_or_false, equal_bytes, same_bytes, read_at}
use Rattle.gs_chars.proofs.Searches.{find_absent, find_at_place, position_is}
use Rattle.std.proofs.lemmas.Bool.{false_from_ne_true}

-- ---- prefixes of a text

take_whole : (xs : List ℕ) → take (length xs) xs ≡ xs
take_whole xs = take_all (length xs) xs (omega arith)

pub begun : (front text : List ℕ) → begins front text ≡ true → front ≡ take (length front) text
begun front text h = equal_bytes front (take (length front) text) h

begins_from : (front text : List ℕ) → front ≡ take (length front) text → begins front text ≡ true
begins_from front text e = let f = sym e in rw f (same_bytes front)

pub begins_itself : (front text : List ℕ) → front ≡ text → begins front text ≡ true
begins_itself front text e = begins_from front text (rw (← e) (sym (take_whole front)))

either : (m n : ℕ) → (m ≤ n) ⊎ (n ≤ m)
either zero n = inl (omega arith)
either (suc m) zero = inr (omega arith)
either (suc m) (suc n) = elim (either m n) [ inl h ↦ inl (omega arith) | inr h ↦ inr (omega arith) ]

take_twice : (m n : ℕ) (xs : List ℕ) → m ≤ n → take m (take n xs) ≡ take m xs
take_twice zero n xs h = refl
take_twice (suc m) zero xs h = absurd (omega arith)
take_twice (suc m) (suc n) [] h = refl
take_twice (suc m) (suc n) (x ∷ xs) h = ap (λ ys. x ∷ ys) (take_twice m n xs (omega arith))

nested : (a b text : List ℕ) → begins a text ≡ true → begins b text ≡ true → length a ≤ length b → begins a b ≡ true
nested a b text h k le =
    let e = begun a text h in
    let f = begun b text k in
    let inner : take (length a) (take (length b) text) ≡ take (length a) text = take_twice (length a) (length b) text le in
    begins_from a b (e ∙ sym (ap (take (length a)) f ∙ inner))

-- ---- codes of a table

module _ (rows : List AiRow) (rules : KeepsRules rows) where
  pub one_begins : (text : List ℕ) (i j : ℕ) (a b : AiRow) → slice_get rows i ≡ Some a → slice_get rows j ≡ Some b
      → begins a.code text ≡ true → begins b.code text ≡ true → i ≡ j
  one_begins text i j a b at there h k = elim (either (length a.code) (length b.code)) [
    | inl le ↦ rules.codes_apart i j a b at there (nested a.code b.code text h k le)
    | inr le ↦ sym (rules.codes_apart j i b a there at (nested b.code a.code text k h le))
  ]

pub row_kept : (rows : List AiRow) → KeepsRules rows → (i : ℕ) (row : AiRow) → i < length rows → row ≡ get_or rows i row → is_row row ≡ true
row_kept rows rules i row low read = (rules.rows_in_order i row (read_at rows i row low read)).0

pub length_read : (rows : List AiRow) (i : ℕ) (row : AiRow) → i < length rows → row ≡ get_or rows i row
    → predefined_length row.code ≡ option_and_then (λ r. predefined_length r.code) (slice_get rows i)
length_read rows i row low read = rw (read_at rows i row low read) refl

-- the first error of a value by the parts of the row
pub error_by_row : (rows : List AiRow) → KeepsRules rows → (i : ℕ) (row : AiRow) (value : List ℕ) → i < length rows
    → row ≡ get_or rows i row → row_error rows i value ≡ parts_error row.parts value
error_by_row rows rules i row value low read =
    let at = read_at rows i row low read in
    let own : has_code row.code row ≡ true = same_bytes row.code in
    let place = position_is (has_code row.code) rows i row at own (λ j other less there. false_from_ne_true (has_code row.code other) (λ same.
    let e = rules.codes_apart j i other row there at (begins_itself other.code row.code (sym (equal_bytes row.code other.code same))) in
    absurd (omega arith))) in
    rw (at, find_at_place (has_code row.code) rows i row place at) refl

-- ---- roles by the row of a code

not_any : {X : Type 0} (p q : X → Bool) (xs : List X) → find p xs ≡ None → list_any (λ x. p x && q x) xs ≡ false
not_any p q [] e = refl
not_any p q (x ∷ xs) e = elim (true_or_false (p x)) [
  | inl t ↦ absurd (let f = rw t at e in let g : Some x ≡ None = f in cc)
  | inr t ↦ let f = rw t at e in rw t (not_any p q xs f)
]

-- the case in which no row after the first one with the code has it too
only_any : {X : Type 0} (p q : X → Bool) (xs : List X) (x : X) → find p xs ≡ Some x
    → ((i j : ℕ) (a b : X) → slice_get xs i ≡ Some a → slice_get xs j ≡ Some b → p a ≡ true → p b ≡ true → i ≡ j)
    → list_any (λ y. p y && q y) xs ≡ q x
only_any p q [] x e one = absurd (let f : None ≡ Some x = e in cc)
only_any p q (y ∷ ys) x e one = elim (true_or_false (p y)) [
  | inl t ↦
      let f = rw t at e in
      let same : y ≡ x = cc in
      let later : find p ys ≡ None = find_absent p ys (λ j z at. false_from_ne_true (p z) (λ pz. let bad = one 0 (suc j) y z refl at t pz in absurd (let e : 0 ≡ suc j = bad in cc))) in
      rw (t, not_any p q ys later, same) (or_false (q x))
  | inr t ↦ let f = rw t at e in rw t (only_any p q ys x f (λ i j a b at there pa pb. let e = one (suc i) (suc j) a b at there pa pb in omega arith))
]

module _ (rows : List AiRow) (rules : KeepsRules rows) where
  pub key_by_row : (code : List ℕ) (row : AiRow) → find (has_code code) rows ≡ Some row → is_key_of rows code ≡ is_key row.role
  key_by_row code row e = only_any (has_code code) (λ r. is_key r.role) rows row e (λ i j a b at there ha hb.
      let ea = equal_bytes code a.code ha in
      let eb = equal_bytes code b.code hb in
      rules.codes_apart i j a b at there (begins_itself a.code b.code (sym ea ∙ eb)))

  pub no_key : (code : List ℕ) → find (has_code code) rows ≡ None → is_key_of rows code ≡ false
  no_key code e = not_any (has_code code) (λ r. is_key r.role) rows e

pub empty_from : {X : Type 0} (xs : List X) → is_empty xs ≡ true → xs ≡ []
empty_from [] h = refl
empty_from (x ∷ xs) h = absurd (let f : false ≡ true = h in cc)
