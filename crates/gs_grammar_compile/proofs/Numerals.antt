-- Decimal texts up to a greatest number.
use Rattle.std.proofs.Common.{◌≡◌, ℕ, ◌<◌, ◌≤◌, ◌+◌, ◌-◌, ◌*◌, ◌^◌, true, IsTrue, List, [], ◌∷◌, length, get_or, zero, suc, refl, ◌∙◌, ap, inl, inr, arith}
use Rattle.std.proofs.Math.Nat.{mul-le-mul_right}
use Rattle.std.proofs.lemmas.Bool.{cases_eq, cases_lt}
use Rattle.std.proofs.lemmas.Bool.Decides.{nat_tests}
use Rattle.gs_chars.specs.Characters.{are_digits, is_digit}
use Rattle.gs_chars.proofs.TruthsAndLists.{and_first, and_second}
use Rattle.gs_grammar.specs.Words.{decimal_value}
use Rattle.gs_grammar.proofs.Numbers.{value_below}
use Rattle.gs_ambig.specs.declared.machine.Edge.{Edge}
use Rattle.gs_ambig.specs.Walks.{edges_at}
use Rattle.gs_grammar_compile.specs.Readers.{Reads}
use Rattle.gs_grammar_compile.specs.Tables.{edge}
use Rattle.gs_grammar_compile.specs.NumeralTables.{free_table, above_digit, tight_edges}
use Rattle.gs_grammar_compile.proofs.WalkLemmas.{Ascends}
use Rattle.gs_grammar_compile.proofs.Arms.{Begins, ByEdge, Either, IsEmpty, reads_end, reads_state, reads_as, arms_one, arms_cons}
use Rattle.gs_grammar_compile.proofs.Blocks.{Has, has_head, has_tail}
use Rattle.gs_grammar_compile.proofs.Runs.{reads_edge}

-- from one to n digits
pub record IsFree (n : ℕ) (w : List ℕ) : Type 0 where
  pub digits : IsTrue (are_digits w)
  pub some : 1 ≤ length w
  pub most : length w ≤ n

-- from one to n digits, which write no number above the rest if they are n
pub record IsTight (n rest : ℕ) (w : List ℕ) : Type 0 where
  pub digits : IsTrue (are_digits w)
  pub some : 1 ≤ length w
  pub most : length w ≤ n
  pub bound : length w ≡ n → decimal_value w ≤ rest

digit_between : (s : ℕ) → 48 ≤ s → s ≤ 57 → is_digit s ≡ true
digit_between s a b = grind (arith, nat_tests)

pub more_digits : (s : ℕ) (w : List ℕ) → 48 ≤ s → s ≤ 57 → IsTrue (are_digits w) → IsTrue (are_digits (s ∷ w))
more_digits s w a b d = let f = digit_between s a b in rw (f, d) refl

pub first_digit : (s : ℕ) (w : List ℕ) → IsTrue (are_digits (s ∷ w)) → (48 ≤ s) × (s ≤ 57)
first_digit s w d = let f = and_first (is_digit s) (are_digits w) d in (grind (arith, nat_tests), grind (arith, nat_tests))

pub other_digits : (s : ℕ) (w : List ℕ) → IsTrue (are_digits (s ∷ w)) → IsTrue (are_digits w)
other_digits s w d = and_second (is_digit s) (are_digits w) d

no_free : (n : ℕ) → IsFree n [] → ⊥
no_free n f = let s = f.some in omega arith

no_tight : (n rest : ℕ) → IsTight n rest [] → ⊥
no_tight n rest f = let s = f.some in omega arith

-- free digits

one_there : (next : ℕ) (w : List ℕ) → Begins (ByEdge (edge 48 57 next) IsEmpty) w → IsFree 1 w
one_there next [] h = absurd h
one_there next (s ∷ w) h =
    let e = ap length h.2 in
    record { digits = more_digits s w h.0 h.1 (rw h.2 refl); some = omega arith; most = omega arith }

one_back : (next : ℕ) (w : List ℕ) → IsFree 1 w → Begins (ByEdge (edge 48 57 next) IsEmpty) w
one_back next [] h = no_free 1 h
one_back next (s ∷ []) h = let d = first_digit s [] h.digits in (d.0, d.1, refl)
one_back next (s ∷ x ∷ w) h = absurd (let m = h.most in omega arith)

abbrev FreeBy : ℕ → ℕ → ℕ → ℕ → List ℕ → Type 0
FreeBy n next end = Either (ByEdge (edge 48 57 next) (IsFree n)) (ByEdge (edge 48 57 end) IsEmpty)

free_there : (n next end : ℕ) (w : List ℕ) → Begins (FreeBy (suc n) next end) w → IsFree (suc (suc n)) w
free_there n next end [] h = absurd h
free_there n next end (s ∷ w) (inl h) =
    let some = h.2.some in
    let most = h.2.most in
    record { digits = more_digits s w h.0 h.1 h.2.digits; some = omega arith; most = omega arith }
free_there n next end (s ∷ w) (inr h) =
    let e = ap length h.2 in
    record { digits = more_digits s w h.0 h.1 (rw h.2 refl); some = omega arith; most = omega arith }

free_back : (n next end : ℕ) (w : List ℕ) → IsFree (suc (suc n)) w → Begins (FreeBy (suc n) next end) w
free_back n next end [] h = no_free (suc (suc n)) h
free_back n next end (s ∷ []) h = let d = first_digit s [] h.digits in inr (d.0, d.1, refl)
free_back n next end (s ∷ x ∷ w) h =
    let d = first_digit s (x ∷ w) h.digits in
    let m = h.most in
    inl (d.0, d.1, record { digits = other_digits s (x ∷ w) h.digits; some = omega arith; most = omega arith })

free_apart : (n next end : ℕ) (s : ℕ) (w : List ℕ) → ByEdge (edge 48 57 next) (IsFree n) s w → ByEdge (edge 48 57 end) IsEmpty s w → ⊥
free_apart n next end s w h k = no_free n (rw k.2 at h.2)

pub reads_free : (table : List (List Edge)) (n base q : ℕ) → Has table base (free_table (suc n) base) → Ascends table → q ≡ base + suc n
    → Reads table base q (IsFree (suc n))
reads_free table zero base q h a e =
    reads_as table base q (Begins (ByEdge (edge 48 57 (base + 1)) IsEmpty)) (IsFree 1)
    (reads_edge table base q 48 57 (base + 1) IsEmpty (has_head table base (edge 48 57 (base + 1) ∷ []) [] h) (omega arith) (reads_end table (base + 1) q a (omega arith)))
    (one_there (base + 1)) (one_back (base + 1))
reads_free table (suc n) base q h a e =
    let row : edges_at table base ≡ edge 48 57 (base + 1) ∷ edge 48 57 (base + 1 + suc n) ∷ [] = has_head table base (edge 48 57 (base + 1) ∷ edge 48 57 (base + 1 + suc n) ∷ []) (free_table (suc n) (base + 1)) h in
    let end : base + 1 + suc n ≡ q = omega arith in
    let here : edges_at table base ≡ edge 48 57 (base + 1) ∷ edge 48 57 q ∷ [] = row ∙ ap (λ (k : ℕ). edge 48 57 (base + 1) ∷ edge 48 57 k ∷ []) end in
    let rest = reads_free table n (base + 1) q (has_tail table base (edge 48 57 (base + 1) ∷ edge 48 57 (base + 1 + suc n) ∷ []) (free_table (suc n) (base + 1)) h) a (omega arith) in
    let last = arms_one table (edge 48 57 q) q IsEmpty (reads_end table q q a refl) in
    let arms = arms_cons table (edge 48 57 (base + 1)) (edge 48 57 q ∷ []) q (IsFree (suc n)) (ByEdge (edge 48 57 q) IsEmpty) rest last (free_apart (suc n) (base + 1) q) in
    let state = reads_state table base q (edge 48 57 (base + 1) ∷ edge 48 57 q ∷ []) (FreeBy (suc n) (base + 1) q) here (omega arith) arms in
    reads_as table base q (Begins (FreeBy (suc n) (base + 1) q)) (IsFree (suc (suc n))) state (free_there n (base + 1) q) (free_back n (base + 1) q)

-- from none to n digits more, at the state that is n before the end
abbrev pub FreeOrEnd : ℕ → List ℕ → Type 0
FreeOrEnd zero w = IsEmpty w
FreeOrEnd (suc n) w = IsFree (suc n) w

-- digits that are those of the greatest so far

value_small : (n : ℕ) (w : List ℕ) → IsTrue (are_digits w) → length w ≡ n → decimal_value w < 10 ^ n
value_small n w d l = value_below w n d l

value_cons : (n s : ℕ) (w : List ℕ) → length w ≡ n → decimal_value (s ∷ w) ≡ (s - 48) * 10 ^ n + decimal_value w
value_cons n s w l = ap (λ (k : ℕ). (s - 48) * 10 ^ k + decimal_value w) l

-- the least first digit is 48, or 49 if it may be a zero only as the single digit
abbrev TightBy : ℕ → ℕ → ℕ → ℕ → ℕ → ℕ → ℕ → List ℕ → Type 0
TightBy low n digit rest next end = Either (ByEdge (edge low (47 + digit) (end - suc n)) (IsFree (suc n)))
    (Either (ByEdge (edge (48 + digit) (48 + digit) next) (IsTight (suc n) rest)) (Either (ByEdge (edge (above_digit n digit) 57 (end - n)) (FreeOrEnd n)) (ByEdge (edge 48 57 end) IsEmpty)))

-- a first digit that is below the least is the only digit
abbrev pub FirstFrom : ℕ → List ℕ → Type 0
FirstFrom low w = get_or w 0 0 < low → length w ≡ 1

tight_lower : (low n digit rest s : ℕ) (w : List ℕ) → 48 ≤ low → digit ≤ 9 → low ≤ s → s ≤ 47 + digit → IsFree (suc n) w
    → IsTight (suc (suc n)) (digit * 10 ^ suc n + rest) (s ∷ w)
tight_lower low n digit rest s w f g a b free =
    let some = free.some in
    let most = free.most in
    record {
      digits = more_digits s w (omega arith) (omega arith) free.digits;
      some = omega arith;
      most = omega arith;
      bound = λ l.
          let count : length w ≡ suc n = omega arith in
          let v = value_cons (suc n) s w count in
          let small = value_small (suc n) w free.digits count in
          let less : suc (s - 48) * 10 ^ suc n ≤ digit * 10 ^ suc n = mul-le-mul_right (10 ^ suc n) (omega arith) in
          let step : suc (s - 48) * 10 ^ suc n ≡ (s - 48) * 10 ^ suc n + 10 ^ suc n = omega arith in
          omega arith;
    }

tight_same : (n digit rest s : ℕ) (w : List ℕ) → digit ≤ 9 → 48 + digit ≤ s → s ≤ 48 + digit → IsTight (suc n) rest w
    → IsTight (suc (suc n)) (digit * 10 ^ suc n + rest) (s ∷ w)
tight_same n digit rest s w g a b tight =
    let some = tight.some in
    let most = tight.most in
    record {
      digits = more_digits s w (omega arith) (omega arith) tight.digits;
      some = omega arith;
      most = omega arith;
      bound = λ l.
          let count : length w ≡ suc n = omega arith in
          let v = value_cons (suc n) s w count in
          let same : s - 48 ≡ digit = omega arith in
          let product : (s - 48) * 10 ^ suc n ≡ digit * 10 ^ suc n = ap (λ (k : ℕ). k * 10 ^ suc n) same in
          let top = tight.bound count in
          omega arith;
    }

tight_higher : (n digit rest s : ℕ) (w : List ℕ) → above_digit n digit ≤ s → s ≤ 57 → FreeOrEnd n w → IsTight (suc (suc n)) rest (s ∷ w)
tight_higher zero digit rest s w a b f = absurd (omega arith)
tight_higher (suc n) digit rest s w a b f =
    let some = f.some in
    let most = f.most in
    record { digits = more_digits s w (omega arith) b f.digits; some = omega arith; most = omega arith; bound = λ l. absurd (omega arith) }

tight_end : (n rest s : ℕ) (w : List ℕ) → 48 ≤ s → s ≤ 57 → w ≡ [] → IsTight (suc (suc n)) rest (s ∷ w)
tight_end n rest s w a b e =
    let l = ap length e in
    record { digits = more_digits s w a b (rw e refl); some = omega arith; most = omega arith; bound = λ m. absurd (omega arith) }

higher_low : (n digit s : ℕ) (w : List ℕ) → above_digit n digit ≤ s → s ≤ 57 → 49 ≤ s
higher_low zero digit s w a b = omega arith
higher_low (suc n) digit s w a b = omega arith

tight_there : (low n digit rest next end : ℕ) → 48 ≤ low → low ≤ 48 + digit → low ≤ 49 → digit ≤ 9 → (w : List ℕ)
    → Begins (TightBy low n digit rest next end) w → IsTight (suc (suc n)) (digit * 10 ^ suc n + rest) w × FirstFrom low w
tight_there low n digit rest next end f m u g [] h = absurd h
tight_there low n digit rest next end f m u g (s ∷ w) (inl h) = (tight_lower low n digit rest s w f g h.0 h.1 h.2, λ b. absurd (let a = h.0 in omega arith))
tight_there low n digit rest next end f m u g (s ∷ w) (inr (inl h)) = (tight_same n digit rest s w g h.0 h.1 h.2, λ b. absurd (let a = h.0 in omega arith))
tight_there low n digit rest next end f m u g (s ∷ w) (inr (inr (inl h))) =
    (tight_higher n digit (digit * 10 ^ suc n + rest) s w h.0 h.1 h.2, λ b. absurd (let a = higher_low n digit s w h.0 h.1 in omega arith))
tight_there low n digit rest next end f m u g (s ∷ w) (inr (inr (inr h))) = (tight_end n (digit * 10 ^ suc n + rest) s w h.0 h.1 h.2, λ b. let e = ap length h.2 in omega arith)

same_digit : (n digit rest s : ℕ) (w : List ℕ) → s ≡ 48 + digit → IsTight (suc (suc n)) (digit * 10 ^ suc n + rest) (s ∷ w) → 1 ≤ length w
    → IsTight (suc n) rest w
same_digit n digit rest s w e t some =
    let most = t.most in
    record {
      digits = other_digits s w t.digits;
      some = some;
      most = omega arith;
      bound = λ count.
          let v = value_cons (suc n) s w count in
          let same : s - 48 ≡ digit = omega arith in
          let product : (s - 48) * 10 ^ suc n ≡ digit * 10 ^ suc n = ap (λ (k : ℕ). k * 10 ^ suc n) same in
          let top = t.bound (omega arith) in
          omega arith;
    }

-- a higher digit leaves room for one digit less
fewer : (n digit rest s : ℕ) (w : List ℕ) → rest < 10 ^ suc n → 49 + digit ≤ s → IsTight (suc (suc n)) (digit * 10 ^ suc n + rest) (s ∷ w)
    → length w ≡ suc n → ⊥
fewer n digit rest s w r a t count =
    let v = value_cons (suc n) s w count in
    let more : suc digit * 10 ^ suc n ≤ (s - 48) * 10 ^ suc n = mul-le-mul_right (10 ^ suc n) (omega arith) in
    let step : suc digit * 10 ^ suc n ≡ digit * 10 ^ suc n + 10 ^ suc n = omega arith in
    let top = t.bound (omega arith) in
    omega arith

by_higher : (n digit rest s : ℕ) (w : List ℕ) → rest < 10 ^ suc n → 49 + digit ≤ s
    → IsTight (suc (suc n)) (digit * 10 ^ suc n + rest) (s ∷ w) → 1 ≤ length w → (above_digit n digit ≤ s) × FreeOrEnd n w
by_higher zero digit rest s w r a t some = absurd (let m = t.most in fewer zero digit rest s w r a t (omega arith))
by_higher (suc n) digit rest s w r a t some =
    let most = t.most in
    let less : length w ≤ suc n = elim (cases_eq (length w) (suc (suc n))) as (λ _. length w ≤ suc n) [
      | inl e ↦ absurd (fewer (suc n) digit rest s w r a t e)
      | inr d ↦ omega arith
    ] in
    (a, record { digits = other_digits s w t.digits; some = some; most = less })

tight_longer : (low n digit rest next end s : ℕ) (w : List ℕ) → rest < 10 ^ suc n → low ≤ s → s ≤ 57
    → IsTight (suc (suc n)) (digit * 10 ^ suc n + rest) (s ∷ w) → 1 ≤ length w → Begins (TightBy low n digit rest next end) (s ∷ w)
tight_longer low n digit rest next end s w r f top t some = elim (cases_lt s (48 + digit)) as (λ _. Begins (TightBy low n digit rest next end) (s ∷ w)) [
  | inl l ↦ let most = t.most in inl (f, omega arith, record { digits = other_digits s w t.digits; some = some; most = omega arith })
  | inr g ↦ elim (cases_eq s (48 + digit)) as (λ _. Begins (TightBy low n digit rest next end) (s ∷ w)) [
    | inl e ↦ inr (inl (omega arith, omega arith, same_digit n digit rest s w e t some))
    | inr d ↦ let h = by_higher n digit rest s w r (omega arith) t some in inr (inr (inl (h.0, top, h.1)))
  ]
]

tight_back : (low n digit rest next end : ℕ) → rest < 10 ^ suc n → (w : List ℕ) → IsTight (suc (suc n)) (digit * 10 ^ suc n + rest) w
    → FirstFrom low w → Begins (TightBy low n digit rest next end) w
tight_back low n digit rest next end r [] t f = no_tight (suc (suc n)) (digit * 10 ^ suc n + rest) t
tight_back low n digit rest next end r (s ∷ []) t f = let d = first_digit s [] t.digits in inr (inr (inr (d.0, d.1, refl)))
tight_back low n digit rest next end r (s ∷ x ∷ w) t f =
    let d = first_digit s (x ∷ w) t.digits in
    let high : low ≤ s = elim (cases_lt s low) as (λ _. low ≤ s) [
      | inl l ↦ absurd (let e = f l in omega arith)
      | inr g ↦ g
    ] in
    tight_longer low n digit rest next end s (x ∷ w) r high d.1 t (omega arith)

-- the edges are apart

apart_lower : (low n digit rest next end s : ℕ) (w : List ℕ) → ByEdge (edge low (47 + digit) (end - suc n)) (IsFree (suc n)) s w
    → Either (ByEdge (edge (48 + digit) (48 + digit) next) (IsTight (suc n) rest)) (Either (ByEdge (edge (above_digit n digit) 57 (end - n)) (FreeOrEnd n)) (ByEdge (edge 48 57 end) IsEmpty)) s w
    → ⊥
apart_lower low n digit rest next end s w h (inl k) = let a = h.1 in let b = k.0 in omega arith
apart_lower low zero digit rest next end s w h (inr (inl k)) = let a = k.0 in let b = k.1 in omega arith
apart_lower low (suc n) digit rest next end s w h (inr (inl k)) = let a = h.1 in let b = k.0 in omega arith
apart_lower low n digit rest next end s w h (inr (inr k)) = no_free (suc n) (rw k.2 at h.2)

apart_same : (n digit rest next end s : ℕ) (w : List ℕ) → ByEdge (edge (48 + digit) (48 + digit) next) (IsTight (suc n) rest) s w
    → Either (ByEdge (edge (above_digit n digit) 57 (end - n)) (FreeOrEnd n)) (ByEdge (edge 48 57 end) IsEmpty) s w → ⊥
apart_same zero digit rest next end s w h (inl k) = let a = k.0 in let b = k.1 in omega arith
apart_same (suc n) digit rest next end s w h (inl k) = let a = h.1 in let b = k.0 in omega arith
apart_same n digit rest next end s w h (inr k) = no_tight (suc n) rest (rw k.2 at h.2)

apart_higher : (n digit end s : ℕ) (w : List ℕ) → ByEdge (edge (above_digit n digit) 57 (end - n)) (FreeOrEnd n) s w → ByEdge (edge 48 57 end) IsEmpty s w → ⊥
apart_higher zero digit end s w h k = let a = h.0 in let b = h.1 in omega arith
apart_higher (suc n) digit end s w h k = no_free (suc n) (rw k.2 at h.2)

-- a state after which some digits may follow
pub reads_tight_more : (table : List (List Edge)) (low n digit rest base next q : ℕ) → 48 ≤ low → low ≤ 48 + digit → low ≤ 49 → digit ≤ 9
    → rest < 10 ^ suc n → edges_at table base ≡ tight_edges low (suc n) digit next q → base < q → Ascends table
    → Reads table (q - suc n) q (IsFree (suc n)) → Reads table (q - n) q (FreeOrEnd n) → Reads table next q (IsTight (suc n) rest)
    → Reads table base q (λ w. IsTight (suc (suc n)) (digit * 10 ^ suc n + rest) w × FirstFrom low w)
reads_tight_more table low n digit rest base next q f m u g r e l a lower higher same =
    let end = arms_one table (edge 48 57 q) q IsEmpty (reads_end table q q a refl) in
    let three = arms_cons table (edge (above_digit n digit) 57 (q - n)) (edge 48 57 q ∷ []) q (FreeOrEnd n) (ByEdge (edge 48 57 q) IsEmpty) higher end (apart_higher n digit q) in
    let two = arms_cons table (edge (48 + digit) (48 + digit) next) (edge (above_digit n digit) 57 (q - n) ∷ edge 48 57 q ∷ []) q (IsTight (suc n) rest) (Either (ByEdge (edge (above_digit n digit) 57 (q - n)) (FreeOrEnd n)) (ByEdge (edge 48 57 q) IsEmpty)) same three (apart_same n digit rest next q) in
    let one = arms_cons table (edge low (47 + digit) (q - suc n)) (edge (48 + digit) (48 + digit) next ∷ edge (above_digit n digit) 57 (q - n) ∷ edge 48 57 q ∷ []) q (IsFree (suc n)) (Either (ByEdge (edge (48 + digit) (48 + digit) next) (IsTight (suc n) rest)) (Either (ByEdge (edge (above_digit n digit) 57 (q - n)) (FreeOrEnd n)) (ByEdge (edge 48 57 q) IsEmpty))) lower two (apart_lower low n digit rest next q) in
    let state = reads_state table base q (tight_edges low (suc n) digit next q) (TightBy low n digit rest next q) e l one in
    reads_as table base q (Begins (TightBy low n digit rest next q)) (λ w. IsTight (suc (suc n)) (digit * 10 ^ suc n + rest) w × FirstFrom low w) state
    (tight_there low n digit rest next q f m u g)
    (λ w h. tight_back low n digit rest next q r w h.0 h.1)

-- the last state
last_there : (digit next : ℕ) → digit ≤ 9 → (w : List ℕ) → Begins (ByEdge (edge 48 (48 + digit) next) IsEmpty) w → IsTight 1 digit w
last_there digit next g [] h = absurd h
last_there digit next g (s ∷ w) h =
    let l = ap length h.2 in
    let count : length w ≡ 0 = omega arith in
    let high = h.1 in
    let low = h.0 in
    record {
      digits = more_digits s w h.0 (omega arith) (rw h.2 refl);
      some = omega arith;
      most = omega arith;
      bound = λ m. let v = value_cons 0 s w count in let none : decimal_value w ≡ 0 = ap decimal_value h.2 in omega arith;
    }

last_back : (digit next : ℕ) (w : List ℕ) → IsTight 1 digit w → Begins (ByEdge (edge 48 (48 + digit) next) IsEmpty) w
last_back digit next [] t = no_tight 1 digit t
last_back digit next (s ∷ []) t =
    let d = first_digit s [] t.digits in
    let v = value_cons 0 s [] refl in
    let top = t.bound refl in
    let low = d.0 in
    (d.0, omega arith, refl)
last_back digit next (s ∷ x ∷ w) t = absurd (let m = t.most in omega arith)

pub reads_tight_last : (table : List (List Edge)) (digit base q : ℕ) → digit ≤ 9 → edges_at table base ≡ edge 48 (48 + digit) q ∷ []
    → base < q → Ascends table → Reads table base q (IsTight 1 digit)
reads_tight_last table digit base q g e l a =
    reads_as table base q (Begins (ByEdge (edge 48 (48 + digit) q) IsEmpty)) (IsTight 1 digit)
    (reads_edge table base q 48 (48 + digit) q IsEmpty e l (reads_end table q q a refl)) (last_there digit q g) (last_back digit q)
