-- States that read one bit more of a number: by its half with a 0 and its half with a 1.
use Rattle.std.proofs.Common.{◌≡◌, ℕ, ◌<◌, ◌≤◌, ◌+◌, ◌*◌, ◌/◌, ◌%◌, ◌^◌, Bool, true, false, List, [], ◌∷◌, ◌++◌, zero, suc, refl, sym, ◌∙◌, subst, inl, inr, arith}
use Rattle.std.proofs.Math.Nat.{one-le-pow, mod-lt}
use Rattle.std.proofs.lemmas.Nat.{mod-pow-add}
use Rattle.std.proofs.lemmas.Bool.Decides.{nat_tests}
use Rattle.gs_bits.specs.Bits.{number_of}
use Rattle.gs_ambig.specs.declared.machine.Edge.{Edge}
use Rattle.gs_ambig.specs.Walks.{edges_at}
use Rattle.gs_grammar_compile.specs.Readers.{Reads}
use Rattle.gs_grammar_compile.specs.Tables.{edge}
use Rattle.gs_grammar_compile.specs.CodeTables.{edge_where}
use Rattle.gs_grammar_compile.specs.OnesTables.{has_bit, from_edges, up_to_edges}
use Rattle.gs_grammar_compile.proofs.Arms.{Arms, Begins, ByEdge, Either, NoArm, reads_state, reads_as, arms_as, arms_one, arms_none}
use Rattle.gs_grammar_compile.proofs.Spread.{arms_both}
use Rattle.gs_grammar_compile.proofs.Runs.{IsRun, reads_edge}
use Rattle.gs_grammar_compile.proofs.Bounds.{small, number_cons}

-- n bits whose number has the property
abbrev pub IsBits : ℕ → (ℕ → Type 0) → List ℕ → Type 0
IsBits n is_so w = IsRun 0 1 n w × is_so (number_of w)

-- a bit, and after it n bits whose number has the property
abbrev pub IsHalf : ℕ → ℕ → (ℕ → Type 0) → ℕ → List ℕ → Type 0
IsHalf bit n is_so s w = (s ≡ bit) × IsBits n is_so w

bit_there : (bit to n s : ℕ) (is_so other : ℕ → Type 0) (w : List ℕ) → ((y : ℕ) → y < 2 ^ n → is_so y → other y)
    → ByEdge (edge bit bit to) (IsBits n is_so) s w → IsHalf bit n other s w
bit_there bit to n s is_so other w f h = (let a = h.0 in let b = h.1 in omega arith, (h.2.0, f (number_of w) (small n w h.2.0) h.2.1))

bit_back : (bit to n s : ℕ) (is_so other : ℕ → Type 0) (w : List ℕ) → ((y : ℕ) → y < 2 ^ n → other y → is_so y) → IsHalf bit n other s w
    → ByEdge (edge bit bit to) (IsBits n is_so) s w
bit_back bit to n s is_so other w f h = (let e = h.0 in omega arith, let e = h.0 in omega arith, (h.1.0, f (number_of w) (small n w h.1.0) h.1.1))

-- by one edge, to a state that reads the rest
pub half_edge : (table : List (List Edge)) (bit to q n : ℕ) (is_so other : ℕ → Type 0) → Reads table to q (IsBits n is_so)
    → ((y : ℕ) → y < 2 ^ n → is_so y → other y) → ((y : ℕ) → y < 2 ^ n → other y → is_so y)
    → Arms table (edge bit bit to ∷ []) q (IsHalf bit n other)
half_edge table bit to q n is_so other r there back =
    arms_as table (edge bit bit to ∷ []) q (ByEdge (edge bit bit to) (IsBits n is_so)) (IsHalf bit n other)
    (arms_one table (edge bit bit to) q (IsBits n is_so) r)
    (λ s w h. bit_there bit to n s is_so other w there h)
    (λ s w h. bit_back bit to n s is_so other w back h)

pub half_none : (table : List (List Edge)) (bit q n : ℕ) (other : ℕ → Type 0) → ((y : ℕ) → y < 2 ^ n → other y → ⊥) → Arms table [] q (IsHalf bit n other)
half_none table bit q n other none =
    arms_as table [] q NoArm (IsHalf bit n other) (arms_none table q) (λ s w h. absurd h) (λ s w h. none (number_of w) (small n w h.1.0) h.1.1)

pub half_where : (table : List (List Edge)) (b : Bool) (bit to q n : ℕ) (is_so other : ℕ → Type 0)
    → (b ≡ true → Reads table to q (IsBits n is_so)) → (b ≡ true → (y : ℕ) → y < 2 ^ n → is_so y → other y)
    → ((y : ℕ) → y < 2 ^ n → other y → (b ≡ true) × is_so y) → Arms table (edge_where b bit to) q (IsHalf bit n other)
half_where table true bit to q n is_so other r there back = half_edge table bit to q n is_so other (r refl) (there refl) (λ y l h. (back y l h).1)
half_where table false bit to q n is_so other r there back = half_none table bit q n other (λ y l h. let f = (back y l h).0 in let g : false ≡ true = f in cc)

-- a state that reads one bit more

halves_there : (n : ℕ) (is_so : ℕ → Type 0) (w : List ℕ) → Begins (Either (IsHalf 0 n is_so) (IsHalf 1 n (λ y. is_so (2 ^ n + y)))) w → IsBits (suc n) is_so w
halves_there n is_so [] h = absurd h
halves_there n is_so (s ∷ w) (inl h) =
    let none = h.0 in
    let e = number_cons n s w h.1.0 in
    let number : number_of w ≡ number_of (s ∷ w) = sym (e ∙ rw none (omega arith)) in
    ((omega arith, omega arith, h.1.0), subst is_so number h.1.1)
halves_there n is_so (s ∷ w) (inr h) =
    let one = h.0 in
    let e = number_cons n s w h.1.0 in
    let number : 2 ^ n + number_of w ≡ number_of (s ∷ w) = sym (e ∙ rw one (omega arith)) in
    ((omega arith, omega arith, h.1.0), subst is_so number h.1.1)

halves_back : (n : ℕ) (is_so : ℕ → Type 0) (w : List ℕ) → IsBits (suc n) is_so w → Begins (Either (IsHalf 0 n is_so) (IsHalf 1 n (λ y. is_so (2 ^ n + y)))) w
halves_back n is_so [] h = absurd h.0
halves_back n is_so (zero ∷ w) h =
    let e = number_cons n 0 w h.0.2 in
    let number : number_of (0 ∷ w) ≡ number_of w = e ∙ omega arith in
    inl (refl, (h.0.2, subst is_so number h.1))
halves_back n is_so (suc zero ∷ w) h =
    let e = number_cons n 1 w h.0.2 in
    let number : number_of (1 ∷ w) ≡ 2 ^ n + number_of w = e ∙ omega arith in
    inr (refl, (h.0.2, subst is_so number h.1))
halves_back n is_so (suc (suc s) ∷ w) h = absurd (let b = h.0.1 in omega arith)

halves_apart : (n s : ℕ) (is_so other : ℕ → Type 0) (w : List ℕ) → IsHalf 0 n is_so s w → IsHalf 1 n other s w → ⊥
halves_apart n s is_so other w h k = let a = h.0 in let b = k.0 in omega arith

pub reads_halves : (table : List (List Edge)) (base q n : ℕ) (zeros ones : List Edge) (is_so : ℕ → Type 0)
    → edges_at table base ≡ zeros ++ ones → base < q → Arms table zeros q (IsHalf 0 n is_so)
    → Arms table ones q (IsHalf 1 n (λ y. is_so (2 ^ n + y))) → Reads table base q (IsBits (suc n) is_so)
reads_halves table base q n zeros ones is_so e l a b =
    let arms = arms_both table zeros ones q (IsHalf 0 n is_so) (IsHalf 1 n (λ y. is_so (2 ^ n + y))) a b (λ s w h k. halves_apart n s is_so (λ y. is_so (2 ^ n + y)) w h k) in
    let state = reads_state table base q (zeros ++ ones) (Either (IsHalf 0 n is_so) (IsHalf 1 n (λ y. is_so (2 ^ n + y)))) e l arms in
    reads_as table base q (Begins (Either (IsHalf 0 n is_so) (IsHalf 1 n (λ y. is_so (2 ^ n + y))))) (IsBits (suc n) is_so) state
    (halves_there n is_so) (halves_back n is_so)

-- any number, a number from the rest of another on, and one up to it

abbrev pub Any : ℕ → Type 0
Any y = Unit {0}

abbrev pub From : ℕ → ℕ → ℕ → Type 0
From n number y = number % 2 ^ n ≤ y

abbrev pub UpTo : ℕ → ℕ → ℕ → Type 0
UpTo n number y = y ≤ number % 2 ^ n

-- the rest of a number after its bit
rest_with : (n number : ℕ) → has_bit n number ≡ true → number % 2 ^ suc n ≡ 2 ^ n + number % 2 ^ n
rest_with n number t =
    let split : number % 2 ^ (1 + n) ≡ number / 2 ^ n % 2 ^ 1 * 2 ^ n + number % 2 ^ n = mod-pow-add number 1 n in
    let one : number / 2 ^ n % 2 ≡ 1 = grind (arith, nat_tests) in
    let more : 1 + n ≡ suc n = omega arith in
    let here : number % 2 ^ suc n ≡ number / 2 ^ n % 2 * 2 ^ n + number % 2 ^ n = rw more at split in
    let at : number % 2 ^ suc n ≡ 1 * 2 ^ n + number % 2 ^ n = rw one at here in
    omega arith

rest_without : (n number : ℕ) → has_bit n number ≡ false → number % 2 ^ suc n ≡ number % 2 ^ n
rest_without n number t =
    let split : number % 2 ^ (1 + n) ≡ number / 2 ^ n % 2 ^ 1 * 2 ^ n + number % 2 ^ n = mod-pow-add number 1 n in
    let none : number / 2 ^ n % 2 ≡ 0 = grind (arith, nat_tests) in
    let more : 1 + n ≡ suc n = omega arith in
    let here : number % 2 ^ suc n ≡ number / 2 ^ n % 2 * 2 ^ n + number % 2 ^ n = rw more at split in
    let at : number % 2 ^ suc n ≡ 0 * 2 ^ n + number % 2 ^ n = rw none at here in
    omega arith

pub reads_from : (table : List (List Edge)) (base q n number same free : ℕ) (b : Bool) → has_bit n number ≡ b
    → edges_at table base ≡ from_edges b same free → base < q → Reads table same q (IsBits n (From n number))
    → Reads table free q (IsBits n Any) → Reads table base q (IsBits (suc n) (From (suc n) number))
reads_from table base q n number same free true t e l r f =
    let rest = rest_with n number t in
    reads_halves table base q n [] (edge 1 1 same ∷ []) (From (suc n) number) e l
    (half_none table 0 q n (From (suc n) number) (λ y s h. omega arith))
    (half_edge table 1 same q n (From n number) (λ y. From (suc n) number (2 ^ n + y)) r (λ y s h. omega arith) (λ y s h. omega arith))
reads_from table base q n number same free false t e l r f =
    let rest = rest_without n number t in
    reads_halves table base q n (edge 0 0 same ∷ []) (edge 1 1 free ∷ []) (From (suc n) number) e l
    (half_edge table 0 same q n (From n number) (From (suc n) number) r (λ y s h. omega arith) (λ y s h. omega arith))
    (half_edge table 1 free q n Any (λ y. From (suc n) number (2 ^ n + y)) f (λ y s h. let m = mod-lt number (one-le-pow n 2 (omega arith)) in omega arith) (λ y s h. tt))

pub reads_up_to : (table : List (List Edge)) (base q n number same free : ℕ) (b : Bool) → has_bit n number ≡ b
    → edges_at table base ≡ up_to_edges b same free → base < q → Reads table same q (IsBits n (UpTo n number))
    → Reads table free q (IsBits n Any) → Reads table base q (IsBits (suc n) (UpTo (suc n) number))
reads_up_to table base q n number same free true t e l r f =
    let rest = rest_with n number t in
    reads_halves table base q n (edge 0 0 free ∷ []) (edge 1 1 same ∷ []) (UpTo (suc n) number) e l
    (half_edge table 0 free q n Any (UpTo (suc n) number) f (λ y s h. omega arith) (λ y s h. tt))
    (half_edge table 1 same q n (UpTo n number) (λ y. UpTo (suc n) number (2 ^ n + y)) r (λ y s h. omega arith) (λ y s h. omega arith))
reads_up_to table base q n number same free false t e l r f =
    let rest = rest_without n number t in
    reads_halves table base q n (edge 0 0 same ∷ []) [] (UpTo (suc n) number) e l
    (half_edge table 0 same q n (UpTo n number) (UpTo (suc n) number) r (λ y s h. omega arith) (λ y s h. omega arith))
    (half_none table 1 q n (λ y. UpTo (suc n) number (2 ^ n + y)) (λ y s h. let m = mod-lt number (one-le-pow n 2 (omega arith)) in omega arith))

free_there : (n next : ℕ) (w : List ℕ) → Begins (ByEdge (edge 0 1 next) (IsBits n Any)) w → IsBits (suc n) Any w
free_there n next [] h = absurd h
free_there n next (s ∷ w) h = ((h.0, h.1, h.2.0), tt)

free_back : (n next : ℕ) (w : List ℕ) → IsBits (suc n) Any w → Begins (ByEdge (edge 0 1 next) (IsBits n Any)) w
free_back n next [] h = absurd h.0
free_back n next (s ∷ w) h = (h.0.0, h.0.1, (h.0.2, tt))

pub reads_free_bits : (table : List (List Edge)) (base q n next : ℕ) → edges_at table base ≡ edge 0 1 next ∷ [] → base < q
    → Reads table next q (IsBits n Any) → Reads table base q (IsBits (suc n) Any)
reads_free_bits table base q n next e l r =
    reads_as table base q (Begins (ByEdge (edge 0 1 next) (IsBits n Any))) (IsBits (suc n) Any)
    (reads_edge table base q 0 1 next (IsBits n Any) e l r) (free_there n next) (free_back n next)
