-- The built-in rows: bits and rows one by one, and tests that hold at each row.
use Rattle.std.proofs.Common.{◌≡◌, ℕ, ◌+◌, ◌-◌, ◌<◌, ◌≤◌, ◌∙◌, zero, suc, Bool, true, false, List, [], ◌∷◌, ◌++◌, length, map, take, get_or, append_assoc, Option, Some, refl, sym, ap, arith}
use Rattle.std.proofs.lemmas.List.Folds.{list_all_at}
use Rattle.std.specs.Int.{bit_at}
use Rattle.std.proofs.lemmas.List.{flat_map_more, map-append, take_all, take_more}
use Rattle.std.specs.List.{flat_map, list_all}
use Rattle.gs_bits.specs.Bits.{bits_of}
use Rattle.gs_tables_builtin.specs.BuiltIn.{behind_prefix, encodings}
use Rattle.gs_tables_builtin.specs.BuiltInSupport.{rests_fit}
use Rattle.gs_tables_document.specs.Items.{FieldItem}
use Rattle.gs_grammar.specs.declared.item.Item.{Item}

-- the next bit after the earlier ones
pub bits_more : (xs ys : List ℕ) (b left number : ℕ) → 0 < left → b ≡ bit_at number (left - 1) → ys ≡ xs ++ b ∷ []
    → ys ++ bits_of (left - 1) number ≡ xs ++ bits_of left number
unfolding bits_of
bits_more xs ys b zero number h e f = absurd (omega arith)
bits_more xs ys b (suc n) number h e f =
    let less : suc n - 1 ≡ n = omega arith in
    let first : b ≡ bit_at number n = e ∙ (rw less refl) in
    rw less (rw f (rw append_assoc (rw first refl)))

-- one more item after the earlier ones, and others after it
pub one_more : {X : Type 0} (old mid new : List X) (x : X) (xs : List X) → mid ≡ old ++ x ∷ [] → new ≡ mid ++ xs → new ≡ old ++ x ∷ xs
one_more old mid new x xs gained e = rw gained at e ∙ append_assoc old (x ∷ []) xs

-- the items after the company prefix, after the earlier ones
pub same_behind : (old new : List (Option FieldItem)) (rest rest' : FieldItem) (pieces : List FieldItem) (serial serial' : Option Item)
    → rest ≡ rest' → serial ≡ serial' → new ≡ old ++ map Some (behind_prefix rest pieces serial)
    → new ≡ old ++ map Some (behind_prefix rest' pieces serial')
same_behind old new rest rest' pieces serial serial' r s h = rw (r, s) at h

-- the row of one more of those that a row each is made for
pub row_more : {X R : Type 0} (f : X → R) (xs : List X) (i : ℕ) (d : X) (start old new : List R) → i < length xs
    → old ≡ start ++ map f (take i xs) → new ≡ old ++ f (get_or xs i d) ∷ [] → new ≡ start ++ map f (take (i + 1) xs)
row_more f xs i d start old new low before gained =
    rw (take_more xs i d low, map-append f (take i xs) (get_or xs i d ∷ []))
    (gained ∙ rw before (append_assoc start (map f (take i xs)) (f (get_or xs i d) ∷ [])))

-- the rows of all that a row each is made for
pub rows_whole : {X R : Type 0} (f : X → R) (xs : List X) (i : ℕ) (start new : List R) → length xs ≤ i → new ≡ start ++ map f (take i xs)
    → new ≡ start ++ map f xs
rows_whole f xs i start new all h = let whole : take i xs ≡ xs = take_all i xs all in rw whole at h

-- the rows of all that rows are made for
pub flat_whole : {X R : Type 0} (f : X → List R) (xs : List X) (i : ℕ) (new : List R) → length xs ≤ i → new ≡ flat_map f (take i xs) → new ≡ flat_map f xs
flat_whole f xs i new all h = let whole : take i xs ≡ xs = take_all i xs all in rw whole at h

-- the numbers of the encodings have at most 64 bits
pub rests_of_encodings_fit : list_all rests_fit encodings ≡ true
unfolding encodings
rests_of_encodings_fit = refl

-- the rows of one more of those that the rows are made for
pub rows_more : {X R : Type 0} (f : X → List R) (xs : List X) (i : ℕ) (x : X) (old new : List R) → i < length xs → x ≡ get_or xs i x
    → old ≡ flat_map f (take i xs) → new ≡ old ++ f x → new ≡ flat_map f (take (i + 1) xs)
rows_more f xs i x old new low at before gained =
    let one : take (i + 1) xs ≡ take i xs ++ x ∷ [] = rw at (take_more xs i x low) in
    rw one (gained ∙ (rw before (flat_map_more f [] (take i xs) x)))

-- a test that all pass is passed by the one at a place
pub passes_at : {X : Type 0} (test : X → Bool) (xs : List X) (i : ℕ) (d : X) → i < length xs → list_all test xs ≡ true → test (get_or xs i d) ≡ true
passes_at test xs i d low all = decided (test (get_or xs i d)) refl
  where
    decided : (b : Bool) → test (get_or xs i d) ≡ b → test (get_or xs i d) ≡ true
    decided true e = e
    decided false e = absurd (let f : false ≡ true = sym (list_all_at test xs i d low e) ∙ all in cc)

-- a test that all pass is passed by each
pub each_passes : {X : Type 0} (test : X → Bool) (xs : List X) (i : ℕ) (x : X) → i < length xs → x ≡ get_or xs i x → list_all test xs ≡ true → test x ≡ true
each_passes test xs i x low at all = ap test at ∙ passes_at test xs i x low all
