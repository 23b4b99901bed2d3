use Rattle.std.proofs.Common.{◌≡◌, ℕ, ◌+◌, ◌-◌, ◌*◌, ◌/◌, ◌%◌, ◌<◌, ◌≤◌, ltb, Bool, true, false, List, [], ◌∷◌, length, get_or, cond, refl, subst, arith}
use Rattle.std.proofs.lemmas.Bool.{ltb-true, ltb-false}
use Rattle.std.proofs.lemmas.Bool.Decides.{nat_tests}
use Rattle.gs_ai.specs.Parts.{number_text}
use Rattle.gs_ai.proofs.part.read_number.Goals as goal

-- how long a number's text is, and which digits are in it
abbrev Shape : List ℕ → Type 0
Shape text = (1 ≤ length text) × (length text ≤ 2) × (49 ≤ get_or text 0 0) × (get_or text 0 0 < 58)
    × (2 ≤ length text → 48 ≤ get_or text 1 0) × (2 ≤ length text → get_or text 1 0 < 58)

shape_of : (k : ℕ) → 0 < k → k < 100 → (b : Bool) → ltb k 10 ≡ b → Shape (cond b ((48 + k) ∷ []) ((48 + k / 10) ∷ (48 + k % 10) ∷ []))
shape_of k low high true b = let h = ltb-true _ _ b in (omega arith, omega arith, omega arith, omega arith, λ long. omega arith, λ long. omega arith)
shape_of k low high false b = let h = ltb-false _ _ b in (omega arith, omega arith, omega arith, omega arith, λ _. omega arith, λ _. omega arith)

shape : (k : ℕ) (text : List ℕ) → 0 < k → k < 100 → number_text k ≡ text → Shape text
shape k text low high e = subst Shape e (shape_of k low high _ refl)

pub returns-in_default-clause-none : goal.returns-in_default-clause-none
returns-in_default-clause-none c = λ k low high e. let s = shape k _ low high e in omega arith

pub returns-in_default-2-clause-none : goal.returns-in_default-2-clause-none
returns-in_default-2-clause-none c = λ k low high e. let s = shape k _ low high e in omega arith

pub returns-in_default-3-clause-none : goal.returns-in_default-3-clause-none
returns-in_default-3-clause-none c = λ k low high e. let s = shape k _ low high e in omega arith

pub returns-in_default-4-clause-none : goal.returns-in_default-4-clause-none
returns-in_default-4-clause-none c = λ k low high e. let s = shape k _ low high e in omega arith

pub returns-in_default-5-clause-none : goal.returns-in_default-5-clause-none
returns-in_default-5-clause-none c = λ k low high e. let s = shape k _ low high e in omega arith

-- the number of two digits whose first is not a zero
read_two : (text : List ℕ) (a b : ℕ) → a ≡ get_or text 0 0 → b ≡ get_or text 1 0 → 2 ≤ length text → length text < 3 → 49 ≤ a → a < 58 → 48 ≤ b → b < 58
    → (0 < 10 * (a - 48) + (b - 48)) × (10 * (a - 48) + (b - 48) < 100) × (number_text (10 * (a - 48) + (b - 48)) ≡ text)
read_two [] a b e f long short al ah bl bh = absurd (omega arith)
read_two (x ∷ []) a b e f long short al ah bl bh = absurd (omega arith)
read_two (x ∷ y ∷ z ∷ rest) a b e f long short al ah bl bh = absurd (omega arith)
read_two (x ∷ y ∷ []) a b e f long short al ah bl bh =
    let k = 10 * (a - 48) + (b - 48) in
    let large : ltb k 10 ≡ false = grind (arith, nat_tests) in
    let tens : 48 + k / 10 ≡ x = omega arith in
    let ones : 48 + k % 10 ≡ y = omega arith in
    (omega arith, omega arith, rw (large, tens, ones) refl)

pub returns-in-49-to-57-2-clause-read : goal.returns-in-49-to-57-2-clause-read
returns-in-49-to-57-2-clause-read c = read_two c.args.text.now _ _ refl refl (omega arith) (omega arith) (omega arith) (omega arith) (omega arith) (omega arith)
