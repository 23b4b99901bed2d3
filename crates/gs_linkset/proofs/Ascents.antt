-- Names that ascend, and texts that are not valid UTF-8.
use Rattle.std.proofs.Common.{◌≡◌, ℕ, zero, suc, ◌+◌, ◌-◌, ◌<◌, ◌≤◌, ◌&&◌, Bool, true, false, List, [], ◌∷◌, length, take, map, get_or, Some, None, slice_get, refl, sym, ◌∙◌, inl, inr, not, Option, Less, arith}
use Rattle.std.specs.Cmp.Lexicographic.{slice_cmp}
use Rattle.std.specs.List.{AllByRecursion, cons_option, filter_map, list_all, position, position_from}
use Rattle.std.specs.List.Sorted.{IsStrictlySortedBy}
use Rattle.std.specs.Ordering.{nat_cmp}
use Rattle.gs_json.specs.Answers.{AscendByBytes}
use Rattle.std.specs.Str.{IsUtf8, is_utf8}
use Rattle.std.proofs.lemmas.Iterator.Adapters.{position_from-zero}
use Rattle.std.proofs.lemmas.Str.{IsUtf8-from_is_utf8}
use Rattle.gs_chars.proofs.TruthsAndLists.{and_first, and_second, read_at, true_or_false}
use Rattle.gs_linkset.specs.LinkShapes.{ascend, is_below, is_below_first, is_context}
use Rattle.gs_linkset.specs.declared.link_types.Context.{Context}
use Rattle.std.proofs.lemmas.Bool.{false_from_ne_true}

pub no_utf8 : (text : List ℕ) → (IsUtf8 text → ⊥) → is_utf8 text ≡ false
no_utf8 text h = false_from_ne_true (is_utf8 text) (λ t. h (IsUtf8-from_is_utf8 text t))

none : (t : Bool) → (t && false) ≡ false
none true = refl
none false = refl

module _ {X : Type 0} (name : X → List ℕ) where
  pub breaks : (xs : List X) (i : ℕ) (a b : X) → slice_get xs i ≡ Some a → slice_get xs (suc i) ≡ Some b
      → is_below (name a) (name b) ≡ false → ascend (map name xs) ≡ false
  breaks [] i a b at next h = absurd (let g : None ≡ Some a = at in cc)
  breaks (x ∷ []) i a b at next h = absurd (let g : None ≡ Some b = next in cc)
  breaks (x ∷ y ∷ xs) zero a b at next h =
      let one : x ≡ a = cc in
      let two : y ≡ b = cc in
      rw (one, two, h) refl
  breaks (x ∷ y ∷ xs) (suc i) a b at next h = rw (breaks (y ∷ xs) i a b at next h) (none (is_below (name x) (name y)))

  pub goes_on : (xs : List X) (i : ℕ) (a b : X) → slice_get xs i ≡ Some a → slice_get xs (suc i) ≡ Some b
      → is_below (name a) (name b) ≡ true → ascend (map name (take (suc i) xs)) ≡ true → ascend (map name (take (suc (suc i)) xs)) ≡ true
  goes_on [] i a b at next h so_far = absurd (let g : None ≡ Some a = at in cc)
  goes_on (x ∷ []) i a b at next h so_far = absurd (let g : None ≡ Some b = next in cc)
  goes_on (x ∷ y ∷ xs) zero a b at next h so_far =
      let one : x ≡ a = cc in
      let two : y ≡ b = cc in
      rw (one, two, h) refl
  goes_on (x ∷ y ∷ xs) (suc i) a b at next h so_far =
      let first = and_first (is_below (name x) (name y)) (ascend (map name (take (suc i) (y ∷ xs)))) so_far in
      let rest = and_second (is_below (name x) (name y)) (ascend (map name (take (suc i) (y ∷ xs)))) so_far in
      rw (first, goes_on (y ∷ xs) i a b at next h rest) refl

  pub more : (xs : List X) (i : ℕ) (a b : X) → 1 ≤ i → i < length xs → a ≡ get_or xs (i - 1) a → b ≡ get_or xs i b
      → is_below (name a) (name b) ≡ true → ascend (map name (take i xs)) ≡ true → ascend (map name (take (i + 1) xs)) ≡ true
  more xs zero a b low within at next h so_far = absurd (omega arith)
  more xs (suc i) a b low within here next h so_far =
      let own : suc i + 1 ≡ suc (suc i) = omega arith in
      let before : suc i - 1 ≡ i = omega arith in
      rw own (goes_on xs i a b (read_at xs i a (omega arith) (rw before at here)) (read_at xs (suc i) b within next) h so_far)

  pub stops : (xs : List X) (i : ℕ) (a b : X) → 1 ≤ i → i < length xs → a ≡ get_or xs (i - 1) a → b ≡ get_or xs i b
      → is_below (name a) (name b) ≡ false → false ≡ ascend (map name xs)
  stops xs zero a b low within at next h = absurd (omega arith)
  stops xs (suc i) a b low within here next h =
      let before : suc i - 1 ≡ i = omega arith in
      sym (breaks xs i a b (read_at xs i a (omega arith) (rw before at here)) (read_at xs (suc i) b within next) h)

none_breaks : {X : Type 0} (t : X → Bool) (xs : List X) (i : ℕ) → position_from (λ x. not (t x)) i xs ≡ None → list_all t xs ≡ true
none_breaks t [] i h = refl
none_breaks t (x ∷ xs) i h = elim (true_or_false (t x)) [
  | inl e ↦ rw (e, none_breaks t xs (i + 1) (rw e at h)) refl
  | inr e ↦ absurd (let g = rw e at h in let bad : Some i ≡ None = g in cc)
]

-- if no context breaks the shape, all have it
pub all_shaped : (contexts : List Context) → position (λ c. not (is_context c)) contexts ≡ None → list_all is_context contexts ≡ true
all_shaped contexts h = none_breaks is_context contexts 0 (sym (position_from-zero (λ c. not (is_context c)) contexts) ∙ h)

-- ---- the names that remain of ascending names

module _ {X : Type 0} (name : X → List ℕ) (h : List ℕ → Option X) (own : (n : List ℕ) (x : X) → h n ≡ Some x → name x ≡ n) where
  first_by : (n m : List ℕ) (ns : List (List ℕ)) (o : Option X) → h m ≡ o → slice_cmp nat_cmp n m ≡ Less
      → is_below_first n (map name (filter_map h ns)) ≡ true → is_below_first n (map name (cons_option o (filter_map h ns))) ≡ true
  first_by n m ns None e less rest = rest
  first_by n m ns (Some x) e less rest = rw (own m x e, less) refl

  first_kept : (n : List ℕ) (ns : List (List ℕ)) → AllByRecursion (λ m. slice_cmp nat_cmp n m ≡ Less) ns → is_below_first n (map name (filter_map h ns)) ≡ true
  first_kept n [] all = refl
  first_kept n (m ∷ ns) all = first_by n m ns (h m) refl all.0 (first_kept n ns all.1)

  kept_by : (n : List ℕ) (ns : List (List ℕ)) (o : Option X) → h n ≡ o → is_below_first n (map name (filter_map h ns)) ≡ true
      → ascend (map name (filter_map h ns)) ≡ true → ascend (map name (cons_option o (filter_map h ns))) ≡ true
  kept_by n ns None e first rest = rest
  kept_by n ns (Some x) e first rest = rw (own n x e, first, rest) refl

  pub ascend_kept : (ns : List (List ℕ)) → AscendByBytes ns → ascend (map name (filter_map h ns)) ≡ true
  unfolding IsStrictlySortedBy
  ascend_kept [] s = refl
  ascend_kept (n ∷ ns) s = kept_by n ns (h n) refl (first_kept n ns s.0) (ascend_kept ns s.1)
