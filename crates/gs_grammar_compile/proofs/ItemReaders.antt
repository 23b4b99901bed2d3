-- The tables of items read their words.
use Rattle.std.proofs.Common.{◌≡◌, ℕ, ◌<◌, ◌≤◌, ◌+◌, ◌-◌, ◌*◌, ◌^◌, IsTrue, List, [], ◌∷◌, ◌++◌, length, zero, suc, inl, inr, refl, arith}
use Rattle.std.proofs.lemmas.Bool.{cases_eq}
use Rattle.gs_chars.specs.Characters.{are_digits}
use Rattle.std.proofs.Math.Nat.{one-le-pow}
use Rattle.gs_bits.specs.Bits.{number_of}
use Rattle.gs_grammar.specs.declared.item.Item.TheVariants.{Lit, Pad, Digits, NumPad, Num, NumStr, Fill}
use Rattle.gs_grammar.specs.Words.{IsWord, WritesNumber}
use Rattle.gs_grammar.specs.Languages.{IsNumberWithin, IsOneBehind}
use Rattle.gs_grammar.proofs.ItemWords.{lit_word, pad_word, digits_word, numstr_word, numpad_word, num_word, fill_word}
use Rattle.gs_grammar.proofs.Packs.{writes_length, writes_bits, writes_number, written_number}
use Rattle.gs_ambig.specs.declared.machine.Edge.{Edge}
use Rattle.gs_grammar_compile.specs.Readers.{Reads}
use Rattle.gs_grammar_compile.specs.NumeralTables.{free_table, digits_table}
use Rattle.gs_grammar_compile.specs.OnesTables.{layer_states, ones_table}
use Rattle.gs_grammar_compile.specs.Tables.{edge, lit_table, run_table, fill_table, bound_table, digits_greatest}
use Rattle.gs_grammar_compile.proofs.WalkLemmas.{Ascends}
use Rattle.gs_grammar_compile.proofs.Arms.{Begins, ByEdge, reads_as}
use Rattle.gs_grammar_compile.proofs.Blocks.{Has, has_head, has_tail}
use Rattle.gs_grammar_compile.proofs.Runs.{IsRun, IsFill, reads_edge, reads_lit, reads_run, reads_fill, digits_run, run_digits, fill_words, words_fill}
use Rattle.gs_grammar_compile.proofs.Numerals.{IsFree, reads_free, more_digits, first_digit, other_digits}
use Rattle.gs_grammar_compile.proofs.BitHalves.{IsBits}
use Rattle.gs_grammar_compile.proofs.ReadsOnes.{IsOnes, reads_ones}
use Rattle.gs_grammar_compile.proofs.Bounds.{IsBounded, reads_bound, run_length, run_bits, bits_run}

pub reads_literal : (table : List (List Edge)) (symbols : List ℕ) (base q : ℕ) → Has table base (lit_table symbols base) → Ascends table
    → q ≡ base + length symbols → Reads table base q (IsWord (Lit symbols))
reads_literal table symbols base q h a e =
    reads_as table base q (λ w. w ≡ symbols) (IsWord (Lit symbols)) (reads_lit table symbols base q h a e) (λ w. (lit_word symbols w).1)
    (λ w. (lit_word symbols w).0)

pub reads_pad : (table : List (List Edge)) (n base q : ℕ) → Has table base (run_table 48 57 n base) → Ascends table → q ≡ base + n
    → Reads table base q (IsWord (Pad n))
reads_pad table n base q h a e =
    reads_as table base q (IsRun 48 57 n) (IsWord (Pad n)) (reads_run table 48 57 n base q h a e)
    (λ w r. (pad_word n w).1 (run_digits n w r)) (λ w i. let d = (pad_word n w).0 i in digits_run n w d.0 d.1)

-- more than n digits, and at most that many more
record IsSome (n more : ℕ) (w : List ℕ) : Type 0 where
  digits : IsTrue (are_digits w)
  least : n < length w
  most : length w ≤ n + more

some_there : (n more next : ℕ) (w : List ℕ) → Begins (ByEdge (edge 48 57 next) (IsSome n more)) w → IsSome (suc n) more w
some_there n more next [] h = absurd h
some_there n more next (s ∷ w) h =
    let l = h.2.least in
    let m = h.2.most in
    record { digits = more_digits s w h.0 h.1 h.2.digits; least = omega arith; most = omega arith }

some_back : (n more next : ℕ) (w : List ℕ) → IsSome (suc n) more w → Begins (ByEdge (edge 48 57 next) (IsSome n more)) w
some_back n more next [] h = absurd (let l = h.least in omega arith)
some_back n more next (s ∷ w) h =
    let d = first_digit s w h.digits in
    let l = h.least in
    let m = h.most in
    (d.0, d.1, record { digits = other_digits s w h.digits; least = omega arith; most = omega arith })

free_some : (more : ℕ) (w : List ℕ) → IsFree more w → IsSome 0 more w
free_some more w f = let s = f.some in let m = f.most in record { digits = f.digits; least = omega arith; most = omega arith }

some_free : (more : ℕ) (w : List ℕ) → IsSome 0 more w → IsFree more w
some_free more w f = let s = f.least in let m = f.most in record { digits = f.digits; some = omega arith; most = omega arith }

reads_some : (table : List (List Edge)) (n more base start q : ℕ) → Has table base (run_table 48 57 n base ++ free_table (suc more) start)
    → Ascends table → start ≡ base + n → q ≡ base + n + suc more → Reads table base q (IsSome n (suc more))
reads_some table zero more base start q h a e f =
    let same : start ≡ base = omega arith in
    let here : Has table base (free_table (suc more) base) = rw same at h in
    reads_as table base q (IsFree (suc more)) (IsSome 0 (suc more)) (reads_free table more base q here a (omega arith))
    (free_some (suc more)) (some_free (suc more))
reads_some table (suc n) more base start q h a e f =
    let rows : List (List Edge) = run_table 48 57 n (base + 1) ++ free_table (suc more) start in
    let rest = reads_some table n more (base + 1) start q (has_tail table base (edge 48 57 (base + 1) ∷ []) rows h) a (omega arith) (omega arith) in
    let state = reads_edge table base q 48 57 (base + 1) (IsSome n (suc more)) (has_head table base (edge 48 57 (base + 1) ∷ []) rows h) (omega arith) rest in
    reads_as table base q (Begins (ByEdge (edge 48 57 (base + 1)) (IsSome n (suc more)))) (IsSome (suc n) (suc more)) state
    (some_there n (suc more) (base + 1)) (some_back n (suc more) (base + 1))

some_word : (lo hi more : ℕ) (w : List ℕ) → 1 ≤ lo → more ≡ hi - (lo - 1) → lo ≤ hi → IsSome (lo - 1) more w → IsWord (Digits lo hi) w
some_word lo hi more w l e m h =
    let least = h.least in
    let most = h.most in
    (digits_word lo hi w).1 (record { least = omega arith; most = omega arith }, h.digits)

word_some : (lo hi more : ℕ) (w : List ℕ) → 1 ≤ lo → more ≡ hi - (lo - 1) → lo ≤ hi → IsWord (Digits lo hi) w → IsSome (lo - 1) more w
word_some lo hi more w l e m i =
    let d = (digits_word lo hi w).0 i in
    let least = d.0.least in
    let most = d.0.most in
    record { digits = d.1; least = omega arith; most = omega arith }

digits_from : (table : List (List Edge)) (lo hi more base q : ℕ)
    → Has table base (run_table 48 57 (lo - 1) base ++ free_table more (base + (lo - 1))) → Ascends table → 1 ≤ lo → lo ≤ hi
    → more ≡ hi - (lo - 1) → q ≡ base + hi → Reads table base q (IsWord (Digits lo hi))
digits_from table lo hi zero base q h a l m e f = absurd (omega arith)
digits_from table lo hi (suc more) base q h a l m e f =
    reads_as table base q (IsSome (lo - 1) (suc more)) (IsWord (Digits lo hi)) (reads_some table (lo - 1) more base (base + (lo - 1)) q h a refl (omega arith))
    (λ w s. some_word lo hi (suc more) w l e m s)
    (λ w i. word_some lo hi (suc more) w l e m i)

pub reads_digits : (table : List (List Edge)) (lo hi base q : ℕ) → Has table base (digits_table lo hi base) → Ascends table → 1 ≤ lo
    → lo ≤ hi → q ≡ base + hi → Reads table base q (IsWord (Digits lo hi))
reads_digits table lo hi base q h a l m e = digits_from table lo hi (hi - (lo - 1)) base q h a l m refl e

pub reads_filling : (table : List (List Edge)) (a b base q : ℕ) → Has table base (fill_table a (b - a) base) → Ascends table → 0 < a → a ≤ b
    → q ≡ base + b → Reads table base q (IsWord (Fill a b))
reads_filling table zero b base q h asc some order e = absurd (omega arith)
reads_filling table (suc a) b base q h asc some order e =
    let total : b ≡ suc a + (b - suc a) = omega arith in
    reads_as table base q (IsFill (suc a) (b - suc a)) (IsWord (Fill (suc a) b)) (reads_fill table a (b - suc a) base q h asc (omega arith))
    (λ w f. (fill_word (suc a) b w).1 (fill_words (suc a) (b - suc a) b w total f))
    (λ w i. words_fill (suc a) (b - suc a) b w total ((fill_word (suc a) b w).0 i))

bounded_number : (bits greatest : ℕ) (w : List ℕ) → IsBounded bits greatest w → IsNumberWithin bits greatest w
bounded_number bits greatest w b = record { number = number_of w; small = b.1; written = written_number bits w (run_bits bits w b.0) (run_length 0 1 bits w b.0) }

number_bounded : (bits greatest number : ℕ) (w : List ℕ) → number ≤ greatest → WritesNumber bits number w → IsBounded bits greatest w
number_bounded bits greatest number w small written =
    let same = writes_number bits number w written in
    (bits_run bits w (writes_bits bits number w written) (writes_length bits number w written), omega arith)

pub reads_num : (table : List (List Edge)) (bits greatest base q : ℕ) → Has table base (bound_table bits greatest base) → Ascends table
    → q ≡ base + 2 * bits → Reads table base q (IsWord (Num bits greatest))
reads_num table bits greatest base q h a e =
    reads_as table base q (IsBounded bits greatest) (IsWord (Num bits greatest)) (reads_bound table bits greatest base q h a e).first
    (λ w b. (num_word bits greatest w).1 (bounded_number bits greatest w b))
    (λ w i. let n = (num_word bits greatest w).0 i in number_bounded bits greatest n.number w n.small n.written)

-- a number of at most n digits in that many bits is one up to the greatest such
digits_small : (bits n number : ℕ) → number < 10 ^ n → number < 2 ^ bits → number ≤ digits_greatest bits n
digits_small bits n number d f = omega arith

small_digits : (bits n number : ℕ) → number ≤ digits_greatest bits n → number < 10 ^ n
small_digits bits n number h = let p = one-le-pow n 10 (omega arith) in omega arith

pub reads_numpad : (table : List (List Edge)) (bits n base q : ℕ) → Has table base (bound_table bits (digits_greatest bits n) base)
    → Ascends table → q ≡ base + 2 * bits → Reads table base q (IsWord (NumPad bits n))
reads_numpad table bits n base q h a e =
    reads_as table base q (IsBounded bits (digits_greatest bits n)) (IsWord (NumPad bits n))
    (reads_bound table bits (digits_greatest bits n) base q h a e).first
    (λ w b. (numpad_word bits n w).1 (let m = bounded_number bits (digits_greatest bits n) w b in record { number = m.number; small = small_digits bits n m.number m.small; written = m.written }))
    (λ w i. let m = (numpad_word bits n w).0 i in number_bounded bits (digits_greatest bits n) m.number w (digits_small bits n m.number m.small m.written.fits) m.written)

-- digits after a 1

-- the count of digits after a 1, from 1 to that many
record SomeCount (hi number : ℕ) : Type 0 where
  count : ℕ
  least : 1 ≤ count
  most : count ≤ hi
  digits : IsOneBehind count number

ones_count : (hi number : ℕ) → IsOnes hi number → SomeCount hi number
ones_count zero number h = absurd h
ones_count (suc hi) number (inl h) = record { count = suc hi; least = omega arith; most = omega arith; digits = record { from = h.0; below = h.1 } }
ones_count (suc hi) number (inr h) =
    let r = ones_count hi number h in
    let m = r.most in
    record { count = r.count; least = r.least; most = omega arith; digits = r.digits }

count_ones : (hi count number : ℕ) → 1 ≤ count → count ≤ hi → IsOneBehind count number → IsOnes hi number
count_ones zero count number l m d = absurd (omega arith)
count_ones (suc hi) count number l m d = elim (cases_eq count (suc hi)) as (λ _. IsOnes (suc hi) number) [
  | inl e ↦ let same : IsOneBehind (suc hi) number = rw e at d in inl (same.from, same.below)
  | inr n ↦ inr (count_ones hi count number l (omega arith) d)
]

ones_word : (bits hi : ℕ) (w : List ℕ) → IsBits bits (IsOnes hi) w → IsWord (NumStr bits hi) w
ones_word bits hi w h =
    let c = ones_count hi (number_of w) h.1 in
    (numstr_word bits hi w).1 (record { count = c.count; number = number_of w; least = c.least; most = c.most; digits = c.digits; written = written_number bits w (run_bits bits w h.0) (run_length 0 1 bits w h.0) })

word_ones : (bits hi : ℕ) (w : List ℕ) → IsWord (NumStr bits hi) w → IsBits bits (IsOnes hi) w
word_ones bits hi w i =
    let k = (numstr_word bits hi w).0 i in
    let same = writes_number bits k.number w k.written in
    (bits_run bits w (writes_bits bits k.number w k.written) (writes_length bits k.number w k.written), rw same (count_ones hi k.count k.number k.least k.most k.digits))

pub reads_numstr : (table : List (List Edge)) (bits hi base q : ℕ) → 0 < bits → Has table base (ones_table bits hi base) → Ascends table
    → q ≡ base + layer_states hi * bits → Reads table base q (IsWord (NumStr bits hi))
reads_numstr table bits hi base q some h a e =
    reads_as table base q (IsBits bits (IsOnes hi)) (IsWord (NumStr bits hi)) (reads_ones table bits hi base q some h a e)
    (ones_word bits hi) (word_ones bits hi)
