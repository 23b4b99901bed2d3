-- The table of decimal texts up to a greatest number reads them.
use Rattle.std.proofs.Common.{◌≡◌, ℕ, ◌<◌, ◌≤◌, ◌+◌, ◌-◌, ◌*◌, ◌/◌, ◌%◌, ◌^◌, List, [], ◌∷◌, ◌++◌, length, get_or, zero, suc, refl, sym, ◌∙◌, ap, subst, inl, inr, arith, decimal}
use Rattle.std.proofs.Math.Nat.{pow-le-pow_right, pow-succ', one-le-pow, mul-le-mul_right}
use Rattle.std.proofs.lemmas.Bool.{cases_eq, cases_lt}
use Rattle.std.proofs.lemmas.Fmt.{length-decimal-le, decimal_nonempty, decimal-digits_value}
use Rattle.gs_chars.specs.Characters.{are_digits}
use Rattle.gs_grammar.specs.declared.item.Item.TheVariants.{Int}
use Rattle.gs_grammar.specs.Words.{IsWord, IsNumeral, decimal_value}
use Rattle.gs_grammar.proofs.Numbers.{own, value_below, value_decimal, digits_of_decimal, count_order, no_leading_zero}
use Rattle.gs_grammar.proofs.ItemWords.{int_word}
use Rattle.gs_ambig.specs.declared.machine.Edge.{Edge}
use Rattle.gs_ambig.specs.Walks.{edges_at}
use Rattle.gs_grammar_compile.specs.Readers.{Reads}
use Rattle.gs_grammar_compile.specs.Tables.{edge}
use Rattle.gs_grammar_compile.specs.NumeralTables.{free_table, tight_edges, tight_table, numeral_table}
use Rattle.gs_grammar_compile.proofs.WalkLemmas.{Ascends}
use Rattle.gs_grammar_compile.proofs.Arms.{reads_end, reads_as}
use Rattle.gs_grammar_compile.proofs.Blocks.{Has, has_head, has_tail, has_left, has_right}
use Rattle.gs_grammar_compile.proofs.Numerals.{IsTight, FreeOrEnd, FirstFrom, reads_free, reads_tight_more, reads_tight_last, first_digit}

-- the states at which any digits may follow

free_at : (table : List (List Edge)) (n base q j : ℕ) → Has table base (free_table n base) → Ascends table → q ≡ base + n → 1 ≤ j → j ≤ n
    → Has table (q - j) (free_table j (q - j))
free_at table zero base q j h a e l m = absurd (omega arith)
free_at table (suc zero) base q j h a e l m =
    let one : j ≡ 1 = omega arith in
    let place : base ≡ q - j = omega arith in
    subst (λ (k : ℕ). Has table (q - j) (free_table k (q - j))) (sym one) (subst (λ (b : ℕ). Has table b (free_table 1 b)) place h)
free_at table (suc (suc n)) base q j h a e l m = elim (cases_eq j (suc (suc n))) as (λ _. Has table (q - j) (free_table j (q - j))) [
  | inl all ↦
      let place : base ≡ q - j = omega arith in
      subst (λ (k : ℕ). Has table (q - j) (free_table k (q - j))) (sym all) (subst (λ (b : ℕ). Has table b (free_table (suc (suc n)) b)) place h)
  | inr less ↦
      free_at table (suc n) (base + 1) q j (has_tail table base (edge 48 57 (base + 1) ∷ edge 48 57 (base + 1 + suc n) ∷ []) (free_table (suc n) (base + 1)) h) a (omega arith) l (omega arith)
]

reads_free_or_end : (table : List (List Edge)) (n base q j : ℕ) → Has table base (free_table n base) → Ascends table → q ≡ base + n → j ≤ n
    → Reads table (q - j) q (FreeOrEnd j)
reads_free_or_end table n base q zero h a e m = reads_end table (q - 0) q a (omega arith)
reads_free_or_end table n base q (suc j) h a e m = reads_free table j (q - suc j) q (free_at table n base q (suc j) h a e (omega arith) m) a (omega arith)

-- digits, one by one

first_from_low : (n rest : ℕ) (w : List ℕ) → IsTight n rest w → FirstFrom 48 w
first_from_low n rest [] t f = absurd (let s = t.some in omega arith)
first_from_low n rest (s ∷ w) t f = absurd (let d = first_digit s w t.digits in let low = d.0 in omega arith)

split_rest : (n rest : ℕ) → rest / 10 ^ n * 10 ^ n + rest % 10 ^ n ≡ rest
split_rest n rest = let p = one-le-pow n 10 (omega arith) in omega arith

pub rest_small : (n rest : ℕ) → rest % 10 ^ n < 10 ^ n
rest_small n rest = let p = one-le-pow n 10 (omega arith) in omega arith

pub digit_small : (n rest : ℕ) → rest < 10 ^ suc n → rest / 10 ^ n ≤ 9
digit_small n rest l =
    let power : 10 ^ suc n ≡ 10 * 10 ^ n = pow-succ' 10 n in
    let p = one-le-pow n 10 (omega arith) in
    let s = split_rest n rest in
    elim (cases_lt (rest / 10 ^ n) 10) as (λ _. rest / 10 ^ n ≤ 9) [
      | inl b ↦ omega arith
      | inr g ↦ absurd (let more : 10 * 10 ^ n ≤ rest / 10 ^ n * 10 ^ n = mul-le-mul_right (10 ^ n) g in omega arith)
    ]

tight_as : (n rest other : ℕ) (w : List ℕ) → rest ≡ other → IsTight n rest w → IsTight n other w
tight_as n rest other w e t = record { digits = t.digits; some = t.some; most = t.most; bound = λ l. let b = t.bound l in omega arith }

pub reads_tight : (table : List (List Edge)) (n rest base q : ℕ) → Has table base (tight_table (suc n) rest base q) → Ascends table
    → ((j : ℕ) → j ≤ n → Reads table (q - j) q (FreeOrEnd j)) → rest < 10 ^ suc n → base + n < q → Reads table base q (IsTight (suc n) rest)
reads_tight table zero rest base q h a free r l =
    let row = has_head table base (tight_edges 48 0 (rest / 10 ^ 0) (base + 1) q) [] h in
    let same : rest / 10 ^ 0 ≡ rest = omega arith in
    reads_as table base q (IsTight 1 (rest / 10 ^ 0)) (IsTight 1 rest)
    (reads_tight_last table (rest / 10 ^ 0) base q (digit_small 0 rest r) row (omega arith) a)
    (λ w t. tight_as 1 (rest / 10 ^ 0) rest w same t) (λ w t. tight_as 1 rest (rest / 10 ^ 0) w (sym same) t)
reads_tight table (suc n) rest base q h a free r l =
    let row = has_head table base (tight_edges 48 (suc n) (rest / 10 ^ suc n) (base + 1) q) (tight_table (suc n) (rest % 10 ^ suc n) (base + 1) q) h in
    let digit = digit_small (suc n) rest r in
    let small = rest_small (suc n) rest in
    let whole = split_rest (suc n) rest in
    let next = reads_tight table n (rest % 10 ^ suc n) (base + 1) q (has_tail table base (tight_edges 48 (suc n) (rest / 10 ^ suc n) (base + 1) q) (tight_table (suc n) (rest % 10 ^ suc n) (base + 1) q) h) a (λ j m. free j (omega arith)) small (omega arith) in
    let both = reads_tight_more table 48 n (rest / 10 ^ suc n) (rest % 10 ^ suc n) base (base + 1) q (omega arith) (omega arith) (omega arith) digit small row (omega arith) a (free (suc n) (omega arith)) (free n (omega arith)) next in
    reads_as table base q (λ w. IsTight (suc (suc n)) (rest / 10 ^ suc n * 10 ^ suc n + rest % 10 ^ suc n) w × FirstFrom 48 w) (IsTight (suc (suc n)) rest) both
    (λ w t. tight_as (suc (suc n)) (rest / 10 ^ suc n * 10 ^ suc n + rest % 10 ^ suc n) rest w whole t.0)
    (λ w t. (tight_as (suc (suc n)) rest (rest / 10 ^ suc n * 10 ^ suc n + rest % 10 ^ suc n) w (sym whole) t, first_from_low (suc (suc n)) rest w t))

pub length_tight : (n rest base q : ℕ) → length (tight_table n rest base q) ≡ n
length_tight zero rest base q = refl
length_tight (suc n) rest base q = ap suc (length_tight n (rest % 10 ^ n) (base + 1) q)

-- the whole

one_digit : (greatest : ℕ) (w : List ℕ) → IsTight 1 greatest w → FirstFrom 49 w
one_digit greatest w t f = let a = t.some in let b = t.most in omega arith

reads_numeral_one : (table : List (List Edge)) (greatest base q : ℕ) → Has table base (numeral_table 0 greatest base) → Ascends table
    → greatest < 10 → q ≡ base + 1 → Reads table base q (λ w. IsTight 1 greatest w × FirstFrom 49 w)
reads_numeral_one table greatest base q h a g e =
    let end : base + 1 + 0 + 0 ≡ q = omega arith in
    let row = has_head table base (tight_edges 49 0 (greatest / 10 ^ 0) (base + 1) (base + 1 + 0 + 0)) [] h in
    let here : edges_at table base ≡ edge 48 (48 + greatest / 10 ^ 0) q ∷ [] = row ∙ ap (λ (k : ℕ). edge 48 (48 + greatest / 10 ^ 0) k ∷ []) end in
    let same : greatest / 10 ^ 0 ≡ greatest = omega arith in
    reads_as table base q (IsTight 1 (greatest / 10 ^ 0)) (λ w. IsTight 1 greatest w × FirstFrom 49 w)
    (reads_tight_last table (greatest / 10 ^ 0) base q (omega arith) here (omega arith) a)
    (λ w t. (tight_as 1 (greatest / 10 ^ 0) greatest w same t, one_digit (greatest / 10 ^ 0) w t))
    (λ w t. tight_as 1 greatest (greatest / 10 ^ 0) w (sym same) t.0)

reads_numeral_more : (table : List (List Edge)) (n greatest base q : ℕ) → Has table base (numeral_table (suc n) greatest base)
    → Ascends table → 10 ^ suc n ≤ greatest → greatest < 10 ^ suc (suc n) → q ≡ base + 1 + suc n + suc n
    → Reads table base q (λ w. IsTight (suc (suc n)) greatest w × FirstFrom 49 w)
reads_numeral_more table n greatest base q h a low g e =
    let block : Has table base (tight_edges 49 (suc n) (greatest / 10 ^ suc n) (base + 1) q ∷ (tight_table (suc n) (greatest % 10 ^ suc n) (base + 1) q ++ free_table (suc n) (base + 1 + suc n))) = subst (λ (k : ℕ). Has table base (tight_edges 49 (suc n) (greatest / 10 ^ suc n) (base + 1) k ∷ (tight_table (suc n) (greatest % 10 ^ suc n) (base + 1) k ++ free_table (suc n) (base + 1 + suc n)))) (sym e) h in
    let row = has_head table base (tight_edges 49 (suc n) (greatest / 10 ^ suc n) (base + 1) q) (tight_table (suc n) (greatest % 10 ^ suc n) (base + 1) q ++ free_table (suc n) (base + 1 + suc n)) block in
    let behind = has_tail table base (tight_edges 49 (suc n) (greatest / 10 ^ suc n) (base + 1) q) (tight_table (suc n) (greatest % 10 ^ suc n) (base + 1) q ++ free_table (suc n) (base + 1 + suc n)) block in
    let tights = has_left table (base + 1) (tight_table (suc n) (greatest % 10 ^ suc n) (base + 1) q) (free_table (suc n) (base + 1 + suc n)) behind in
    let frees = has_right table (base + 1) (tight_table (suc n) (greatest % 10 ^ suc n) (base + 1) q) (free_table (suc n) (base + 1 + suc n)) behind in
    let count = length_tight (suc n) (greatest % 10 ^ suc n) (base + 1) q in
    let place : base + 1 + length (tight_table (suc n) (greatest % 10 ^ suc n) (base + 1) q) ≡ base + 1 + suc n = omega arith in
    let here : Has table (base + 1 + suc n) (free_table (suc n) (base + 1 + suc n)) = subst (λ (k : ℕ). Has table k (free_table (suc n) (base + 1 + suc n))) place frees in
    let free : (j : ℕ) → j ≤ suc n → Reads table (q - j) q (FreeOrEnd j) = λ j m. reads_free_or_end table (suc n) (base + 1 + suc n) q j here a (omega arith) m in
    let digit = digit_small (suc n) greatest g in
    let small = rest_small (suc n) greatest in
    let whole = split_rest (suc n) greatest in
    let some : 1 ≤ greatest / 10 ^ suc n = elim (cases_eq (greatest / 10 ^ suc n) 0) as (λ _. 1 ≤ greatest / 10 ^ suc n) [
      | inl z ↦ absurd (let product : greatest / 10 ^ suc n * 10 ^ suc n ≡ 0 = ap (λ (k : ℕ). k * 10 ^ suc n) z ∙ omega arith in omega arith)
      | inr d ↦ omega arith
    ] in
    let next = reads_tight table n (greatest % 10 ^ suc n) (base + 1) q tights a (λ j m. free j (omega arith)) small (omega arith) in
    let both = reads_tight_more table 49 n (greatest / 10 ^ suc n) (greatest % 10 ^ suc n) base (base + 1) q (omega arith) (omega arith) (omega arith) digit small row (omega arith) a (free (suc n) (omega arith)) (free n (omega arith)) next in
    reads_as table base q (λ w. IsTight (suc (suc n)) (greatest / 10 ^ suc n * 10 ^ suc n + greatest % 10 ^ suc n) w × FirstFrom 49 w)
    (λ w. IsTight (suc (suc n)) greatest w × FirstFrom 49 w) both
    (λ w t. (tight_as (suc (suc n)) (greatest / 10 ^ suc n * 10 ^ suc n + greatest % 10 ^ suc n) greatest w whole t.0, t.1))
    (λ w t. (tight_as (suc (suc n)) greatest (greatest / 10 ^ suc n * 10 ^ suc n + greatest % 10 ^ suc n) w (sym whole) t.0, t.1))

-- the decimal texts up to the greatest are the digits that are read

text_low : (greatest n : ℕ) → greatest < 2 ^ 64 → length (decimal greatest) ≡ suc n → 1 ≤ n → 10 ^ n ≤ greatest
text_low greatest n small l some = elim (cases_lt greatest (10 ^ n)) as (λ _. 10 ^ n ≤ greatest) [
  | inl b ↦ absurd (let most = length-decimal-le n greatest some b small in omega arith)
  | inr g ↦ g
]

pub text_high : (greatest n : ℕ) → greatest < 2 ^ 64 → length (decimal greatest) ≡ suc n → greatest < 10 ^ suc n
text_high greatest n small l =
    let v = value_decimal greatest small in
    let b = value_below (decimal greatest) (suc n) (digits_of_decimal greatest small) l in
    omega arith

first_zero : (greatest number : ℕ) (w : List ℕ) → number < 2 ^ 64 → w ≡ decimal number → FirstFrom 49 w
first_zero greatest number [] small e f = absurd (let l = ap length e in let some = decimal_nonempty number small in omega arith)
first_zero greatest number (s ∷ []) small e f = refl
first_zero greatest number (s ∷ x ∷ w) small e f =
    let d = first_digit s (x ∷ w) (ap are_digits e ∙ digits_of_decimal number small) in
    let low = d.0 in
    let zero_first : s ≡ 48 = omega arith in
    absurd (no_leading_zero (s ∷ x ∷ w) zero_first (omega arith) number small e)

text_there : (greatest n : ℕ) (w : List ℕ) → greatest < 2 ^ 64 → length (decimal greatest) ≡ suc n → (number : ℕ)
    → IsNumeral greatest number w → IsTight (suc n) greatest w × FirstFrom 49 w
text_there greatest n w small l number i =
    let s = i.small in
    let little : number < 2 ^ 64 = omega arith in
    let e = ap length i.text in
    let some = decimal_nonempty number little in
    let order = count_order number greatest s small in
    let value : decimal_value w ≡ number = ap decimal_value i.text ∙ value_decimal number little in
    (record { digits = ap are_digits i.text ∙ digits_of_decimal number little; some = omega arith; most = omega arith; bound = λ m. omega arith }, first_zero greatest number w little i.text)

value_most : (greatest n : ℕ) (w : List ℕ) → greatest < 2 ^ 64 → length (decimal greatest) ≡ suc n → IsTight (suc n) greatest w → decimal_value w ≤ greatest
value_most greatest n w small l t = elim (cases_eq (length w) (suc n)) as (λ _. decimal_value w ≤ greatest) [
  | inl e ↦ t.bound e
  | inr d ↦
      let most = t.most in
      let some = t.some in
      let b = value_below w (length w) t.digits refl in
      let p : 10 ^ length w ≤ 10 ^ n = pow-le-pow_right {n = 10} (omega arith) (omega arith) in
      let low = text_low greatest n small l (omega arith) in
      omega arith
]

text_back : (greatest n : ℕ) (w : List ℕ) → greatest < 2 ^ 64 → length (decimal greatest) ≡ suc n
    → IsTight (suc n) greatest w × FirstFrom 49 w → (number : ℕ) × IsNumeral greatest number w
text_back greatest n w small l t =
    let most = value_most greatest n w small l t.0 in
    let some = t.0.some in
    let alone : get_or w 0 0 ≡ 48 → length w ≡ 1 = λ z. t.1 (omega arith) in
    (decimal_value w, record { small = most; text = sym (decimal-digits_value own w t.0.digits (omega arith) alone (omega arith)) })

pub reads_int : (table : List (List Edge)) (greatest n base q : ℕ) → greatest < 2 ^ 64 → length (decimal greatest) ≡ suc n
    → Has table base (numeral_table n greatest base) → Ascends table → q ≡ base + 1 + n + n → Reads table base q (IsWord (Int greatest))
reads_int table greatest zero base q small l h a e =
    let high = text_high greatest 0 small l in
    reads_as table base q (λ w. IsTight 1 greatest w × FirstFrom 49 w) (IsWord (Int greatest))
    (reads_numeral_one table greatest base q h a (omega arith) (omega arith))
    (λ w t. (int_word greatest w).1 (text_back greatest 0 w small l t))
    (λ w i. let k = (int_word greatest w).0 i in text_there greatest 0 w small l k.0 k.1)
reads_int table greatest (suc n) base q small l h a e =
    reads_as table base q (λ w. IsTight (suc (suc n)) greatest w × FirstFrom 49 w) (IsWord (Int greatest))
    (reads_numeral_more table n greatest base q h a (text_low greatest (suc n) small l (omega arith)) (text_high greatest (suc n) small l) e)
    (λ w t. (int_word greatest w).1 (text_back greatest (suc n) w small l t))
    (λ w i. let k = (int_word greatest w).0 i in text_there greatest (suc n) w small l k.0 k.1)
