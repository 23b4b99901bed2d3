-- The states of the seven bits of a character.
use Rattle.std.proofs.Common.{◌≡◌, ◌⊎◌, ℕ, ◌<◌, ◌≤◌, ◌+◌, ◌*◌, ◌^◌, ◌&&◌, not, Bool, true, false, List, [], ◌∷◌, ◌++◌, length, get_or, zero, suc, refl, sym, ◌∙◌, ap, inl, inr, arith}
use Rattle.std.specs.Prelude.{nat_lt}
use Rattle.std.proofs.Math.Nat.{pow-succ'}
use Rattle.std.proofs.lemmas.Bool.Decides.{nat_tests}
use Rattle.std.proofs.lemmas.List.Elements.{All-cons, All-nil, All-head, All-tail}
use Rattle.gs_chars.specs.Characters.{is_in_set82}
use Rattle.gs_chars.proofs.TruthsAndLists.{and_first, and_second}
use Rattle.gs_bits.specs.Bits.{AreBits, number_of}
use Rattle.gs_ambig.specs.declared.machine.Edge.{Edge}
use Rattle.gs_ambig.specs.Walks.{edges_at}
use Rattle.gs_grammar_compile.specs.Readers.{Reads}
use Rattle.gs_grammar_compile.specs.Tables.{edge}
use Rattle.gs_grammar_compile.specs.CodeTables.{code_edge, code_row, code_block, code_states}
use Rattle.gs_grammar_compile.proofs.Arms.{Arms, Begins, ByEdge, Either, NoArm, reads_state, reads_as, arms_as, arms_none, arms_one, arms_cons}
use Rattle.gs_grammar_compile.proofs.Blocks.{Has}
use Rattle.gs_grammar_compile.proofs.Spread.{arms_both}
use Rattle.std.proofs.lemmas.Bool.{and_parts}

-- that many bits of a code of the set, whose bits before them write this number, and after them a list of the language
abbrev pub Code : ℕ → ℕ → (List ℕ → Type 0) → List ℕ → Type 0
Code zero front language w = (is_in_set82 front ≡ true) × language w
Code (suc n) front language [] = ⊥
Code (suc n) front language (s ∷ w) = ((s ≡ 0) × Code n (front + front) language w) ⊎ ((s ≡ 1) × Code n (front + front + 1) language w)

-- a state with an edge for each bit
abbrev pub Fork : ℕ → ℕ → (List ℕ → Type 0) → (List ℕ → Type 0) → ℕ → List ℕ → Type 0
Fork zero_state one_state low high = Either (ByEdge (edge 0 0 zero_state) low) (ByEdge (edge 1 1 one_state) high)

pub arms_fork : (table : List (List Edge)) (a b q : ℕ) (low high : List ℕ → Type 0) → Reads table a q low → Reads table b q high
    → Arms table (edge 0 0 a ∷ edge 1 1 b ∷ []) q (Fork a b low high)
arms_fork table a b q low high r s =
    arms_cons table (edge 0 0 a) (edge 1 1 b ∷ []) q low (ByEdge (edge 1 1 b) high) r (arms_one table (edge 1 1 b) q high s)
    (λ x w h k. let c = h.1 in let d = k.0 in omega arith)

-- the state that these numbers lead to reads exactly the codes of the set whose first bits write `front`, and n more bits follow
abbrev covers : ℕ → ℕ → ℕ → Bool
covers zero zero front = not (is_in_set82 front)
covers zero (suc zero) front = is_in_set82 front
covers zero (suc (suc k)) front = false
covers (suc n) zero front = covers n zero (front + front) && covers n zero (front + front + 1)
covers (suc n) (suc zero) front = false
covers (suc n) (suc (suc k)) front =
    nat_lt k 23 && (covers n (get_or code_states k (0, 0)).0 (front + front) && covers n (get_or code_states k (0, 0)).1 (front + front + 1))

covers_row : (n k front : ℕ) → covers (suc n) (suc (suc k)) front ≡ true
    → (k < 23) × ((covers n (get_or code_states k (0, 0)).0 (front + front) ≡ true) × (covers n (get_or code_states k (0, 0)).1 (front + front + 1) ≡ true))
covers_row n k front c =
    let low : Bool = covers n (get_or code_states k (0, 0)).0 (front + front) in
    let high : Bool = covers n (get_or code_states k (0, 0)).1 (front + front + 1) in
    let inside : nat_lt k 23 ≡ true = and_first (nat_lt k 23) (low && high) c in
    let both = and_parts low high (and_second (nat_lt k 23) (low && high) c) in
    (grind (arith, nat_tests), both)

not_both : (b : Bool) → not b ≡ true → b ≡ true → ⊥
not_both true n t = let f : false ≡ true = n in cc
not_both false n t = cc

none_coded : (n front : ℕ) (language : List ℕ → Type 0) (w : List ℕ) → covers n 0 front ≡ true → Code n front language w → ⊥
none_coded zero front language w c h = not_both (is_in_set82 front) c h.0
none_coded (suc n) front language [] c h = h
none_coded (suc n) front language (s ∷ w) c (inl h) = none_coded n (front + front) language w
    (and_first (covers n 0 (front + front)) (covers n 0 (front + front + 1)) c) h.1
none_coded (suc n) front language (s ∷ w) c (inr h) = none_coded n (front + front + 1) language w
    (and_second (covers n 0 (front + front)) (covers n 0 (front + front + 1)) c) h.1

-- a bit, and after it a code whose bits so far write `front`
abbrev OnBit : ℕ → ℕ → ℕ → (List ℕ → Type 0) → ℕ → List ℕ → Type 0
OnBit bit n front language s w = (s ≡ bit) × Code n front language w

abbrev Bits : ℕ → ℕ → (List ℕ → Type 0) → ℕ → List ℕ → Type 0
Bits n front language = Either (OnBit 0 n (front + front) language) (OnBit 1 n (front + front + 1) language)

bits_there : (n front : ℕ) (language : List ℕ → Type 0) (w : List ℕ) → Begins (Bits n front language) w → Code (suc n) front language w
bits_there n front language [] h = h
bits_there n front language (s ∷ w) (inl h) = inl h
bits_there n front language (s ∷ w) (inr h) = inr h

bits_back : (n front : ℕ) (language : List ℕ → Type 0) (w : List ℕ) → Code (suc n) front language w → Begins (Bits n front language) w
bits_back n front language [] h = h
bits_back n front language (s ∷ w) (inl h) = inl h
bits_back n front language (s ∷ w) (inr h) = inr h

bits_apart : (n front : ℕ) (language : List ℕ → Type 0) (s : ℕ) (w : List ℕ) → OnBit 0 n (front + front) language s w
    → OnBit 1 n (front + front + 1) language s w → ⊥
bits_apart n front language s w h k = let a = h.0 in let b = k.0 in omega arith

block_at : (rows : List (ℕ × ℕ)) (base next k : ℕ) → k < length rows → edges_at (code_block rows base next) k ≡ code_row base next (get_or rows k (0, 0))
block_at [] base next k l = absurd (omega arith)
block_at (row ∷ rows) base next zero l = refl
block_at (row ∷ rows) base next (suc k) l = block_at rows base next k (omega arith)

pub length_block : (rows : List (ℕ × ℕ)) (base next : ℕ) → length (code_block rows base next) ≡ length rows
length_block [] base next = refl
length_block (row ∷ rows) base next = ap suc (length_block rows base next)

pub count_states : length code_states ≡ 23
unfolding code_states
count_states = refl

-- the states of a code in a table, whose end reads the language
pub record HasCode (table : List (List Edge)) (base next q : ℕ) (language : List ℕ → Type 0) : Type 0 where
  pub states : Has table base (code_block code_states base next)
  pub room : base + 23 ≤ q
  pub end : Reads table next q language

row_at : (table : List (List Edge)) (base next q k : ℕ) (language : List ℕ → Type 0) → HasCode table base next q language → k < 23
    → edges_at table (base + k) ≡ code_row base next (get_or code_states k (0, 0))
row_at table base next q k language h l =
    let count = count_states in
    let block = length_block code_states base next in
    h.states.at k (omega arith) ∙ block_at code_states base next k (omega arith)

reads_row : (table : List (List Edge)) (base next q n k front : ℕ) (language : List ℕ → Type 0) → HasCode table base next q language
    → k < 23 → Arms table (code_edge 0 base next (get_or code_states k (0, 0)).0) q (OnBit 0 n (front + front) language)
    → Arms table (code_edge 1 base next (get_or code_states k (0, 0)).1) q (OnBit 1 n (front + front + 1) language)
    → Reads table (base + k) q (Code (suc n) front language)
reads_row table base next q n k front language h l a b =
    let zeros : List Edge = code_edge 0 base next (get_or code_states k (0, 0)).0 in
    let ones : List Edge = code_edge 1 base next (get_or code_states k (0, 0)).1 in
    let room = h.room in
    let arms = arms_both table zeros ones q (OnBit 0 n (front + front) language) (OnBit 1 n (front + front + 1) language) a b (bits_apart n front language) in
    let state = reads_state table (base + k) q (zeros ++ ones) (Bits n front language) (row_at table base next q k language h l) (omega arith) arms in
    reads_as table (base + k) q (Begins (Bits n front language)) (Code (suc n) front language) state (bits_there n front language) (bits_back n front language)

arms_to : (table : List (List Edge)) (bit to q n front : ℕ) (language : List ℕ → Type 0) → Reads table to q (Code n front language)
    → Arms table (edge bit bit to ∷ []) q (OnBit bit n front language)
arms_to table bit to q n front language r =
    arms_as table (edge bit bit to ∷ []) q (ByEdge (edge bit bit to) (Code n front language)) (OnBit bit n front language)
    (arms_one table (edge bit bit to) q (Code n front language) r)
    (λ s w h. (let a = h.0 in let b = h.1 in omega arith, h.2))
    (λ s w h. (let e = h.0 in omega arith, let e = h.0 in omega arith, h.1))

code_arms : (table : List (List Edge)) (base next q bit n target front : ℕ) (language : List ℕ → Type 0)
    → HasCode table base next q language → covers n target front ≡ true
    → Arms table (code_edge bit base next target) q (OnBit bit n front language)
code_arms table base next q bit n zero front language h c =
    arms_as table [] q NoArm (OnBit bit n front language) (arms_none table q) (λ s w a. absurd a) (λ s w a. none_coded n front language w c a.1)
code_arms table base next q bit zero (suc zero) front language h c =
    let end : Reads table next q (Code 0 front language) = reads_as table next q language (Code 0 front language) h.end (λ w l. (c, l)) (λ w l. l.1) in
    arms_to table bit next q 0 front language end
code_arms table base next q bit (suc n) (suc zero) front language h c = absurd (let f : false ≡ true = c in cc)
code_arms table base next q bit zero (suc (suc k)) front language h c = absurd (let f : false ≡ true = c in cc)
code_arms table base next q bit (suc n) (suc (suc k)) front language h c =
    let zeros : ℕ = (get_or code_states k (0, 0)).0 in
    let ones : ℕ = (get_or code_states k (0, 0)).1 in
    let parts = covers_row n k front c in
    let low = code_arms table base next q 0 n zeros (front + front) language h parts.1.0 in
    let high = code_arms table base next q 1 n ones (front + front + 1) language h parts.1.1 in
    arms_to table bit (base + k) q (suc n) front language (reads_row table base next q n k front language h parts.0 low high)

code_reads : (table : List (List Edge)) (base next q n k front : ℕ) (language : List ℕ → Type 0) → HasCode table base next q language
    → covers (suc n) (suc (suc k)) front ≡ true → Reads table (base + k) q (Code (suc n) front language)
code_reads table base next q n k front language h c =
    let zeros : ℕ = (get_or code_states k (0, 0)).0 in
    let ones : ℕ = (get_or code_states k (0, 0)).1 in
    let parts = covers_row n k front c in
    let low = code_arms table base next q 0 n zeros (front + front) language h parts.1.0 in
    let high = code_arms table base next q 1 n ones (front + front + 1) language h parts.1.1 in
    reads_row table base next q n k front language h parts.0 low high

covers_low : covers 6 2 0 ≡ true
unfolding code_states is_in_set82
covers_low = refl

covers_high : covers 6 3 1 ≡ true
unfolding code_states is_in_set82
covers_high = refl

pub reads_low : (table : List (List Edge)) (base next q : ℕ) (language : List ℕ → Type 0) → HasCode table base next q language
    → Reads table (base + 0) q (Code 6 0 language)
reads_low table base next q language h = code_reads table base next q 5 0 0 language h covers_low

pub reads_high : (table : List (List Edge)) (base next q : ℕ) (language : List ℕ → Type 0) → HasCode table base next q language
    → Reads table (base + 1) q (Code 6 1 language)
reads_high table base next q language h = code_reads table base next q 5 1 1 language h covers_high

-- the bits of a code and the symbols after them
pub record Coded (n front : ℕ) (language : List ℕ → Type 0) (w : List ℕ) : Type 0 where
  pub bits : List ℕ
  pub rest : List ℕ
  pub whole : w ≡ bits ++ rest
  pub are_bits : AreBits bits
  pub count : length bits ≡ n
  pub character : is_in_set82 (front * 2 ^ n + number_of bits) ≡ true
  pub behind : language rest

coded_cons : (n front more s : ℕ) (language : List ℕ → Type 0) (w : List ℕ) → s < 2 → more ≡ front + front + s → Coded n more language w
    → Coded (suc n) front language (s ∷ w)
coded_cons n front more s language w b e c =
    let count = c.count in
    let power : 2 ^ suc n ≡ 2 * 2 ^ n = pow-succ' 2 n in
    let size : s * 2 ^ length c.bits ≡ s * 2 ^ n = ap (λ (k : ℕ). s * 2 ^ k) count in
    let split : more * 2 ^ n ≡ (front + front + s) * 2 ^ n = ap (λ (k : ℕ). k * 2 ^ n) e in
    let product : (front + front + s) * 2 ^ n ≡ front * (2 * 2 ^ n) + s * 2 ^ n = omega arith in
    let left : front * 2 ^ suc n ≡ front * (2 * 2 ^ n) = ap (λ (k : ℕ). front * k) power in
    let same : more * 2 ^ n + number_of c.bits ≡ front * 2 ^ suc n + number_of (s ∷ c.bits) = omega arith in
    record {
      bits = s ∷ c.bits;
      rest = c.rest;
      whole = ap (λ (x : List ℕ). s ∷ x) c.whole;
      are_bits = All-cons (λ b. b < 2) s c.bits b c.are_bits;
      count = omega arith;
      character = sym (ap is_in_set82 same) ∙ c.character;
      behind = c.behind;
    }

coded_at : (n front s bit : ℕ) (language : List ℕ → Type 0) (w : List ℕ) → s ≡ bit → Coded n front language (bit ∷ w) → Coded n front language (s ∷ w)
coded_at n front s bit language w e c = rw e c

pub code_there : (n front : ℕ) (language : List ℕ → Type 0) (w : List ℕ) → Code n front language w → Coded n front language w
code_there zero front language w h = record {
  bits = [];
  rest = w;
  whole = refl;
  are_bits = All-nil (λ b. b < 2);
  count = refl;
  character = ap is_in_set82 (omega arith) ∙ h.0;
  behind = h.1;
}
code_there (suc n) front language [] h = absurd h
code_there (suc n) front language (s ∷ w) (inl h) = coded_at (suc n) front s 0 language w h.0
    (coded_cons n front (front + front) 0 language w (omega arith) (omega arith) (code_there n (front + front) language w h.1))
code_there (suc n) front language (s ∷ w) (inr h) = coded_at (suc n) front s 1 language w h.0
    (coded_cons n front (front + front + 1) 1 language w (omega arith) (omega arith) (code_there n (front + front + 1) language w h.1))

bits_code : (n front : ℕ) (language : List ℕ → Type 0) (bits rest : List ℕ) → AreBits bits → length bits ≡ n
    → is_in_set82 (front * 2 ^ n + number_of bits) ≡ true → language rest → Code n front language (bits ++ rest)
bits_code zero front language [] rest b l c h = (ap is_in_set82 (omega arith) ∙ c, h)
bits_code zero front language (s ∷ bits) rest b l c h = absurd (omega arith)
bits_code (suc n) front language [] rest b l c h = absurd (omega arith)
bits_code (suc n) front language (zero ∷ bits) rest b l c h =
    let count : length bits ≡ n = omega arith in
    let power : 2 ^ suc n ≡ 2 * 2 ^ n = pow-succ' 2 n in
    let left : front * 2 ^ suc n ≡ front * (2 * 2 ^ n) = ap (λ (k : ℕ). front * k) power in
    let product : (front + front) * 2 ^ n ≡ front * (2 * 2 ^ n) = omega arith in
    let same : (front + front) * 2 ^ n + number_of bits ≡ front * 2 ^ suc n + number_of (0 ∷ bits) = omega arith in
    inl (refl, bits_code n (front + front) language bits rest (All-tail (λ b. b < 2) 0 bits b) count (ap is_in_set82 same ∙ c) h)
bits_code (suc n) front language (suc zero ∷ bits) rest b l c h =
    let count : length bits ≡ n = omega arith in
    let power : 2 ^ suc n ≡ 2 * 2 ^ n = pow-succ' 2 n in
    let size : 1 * 2 ^ length bits ≡ 2 ^ n = ap (λ (k : ℕ). 1 * 2 ^ k) count ∙ omega arith in
    let left : front * 2 ^ suc n ≡ front * (2 * 2 ^ n) = ap (λ (k : ℕ). front * k) power in
    let product : (front + front + 1) * 2 ^ n ≡ front * (2 * 2 ^ n) + 2 ^ n = omega arith in
    let same : (front + front + 1) * 2 ^ n + number_of bits ≡ front * 2 ^ suc n + number_of (1 ∷ bits) = omega arith in
    inr (refl, bits_code n (front + front + 1) language bits rest (All-tail (λ b. b < 2) 1 bits b) count (ap is_in_set82 same ∙ c) h)
bits_code (suc n) front language (suc (suc s) ∷ bits) rest b l c h = absurd
    (let low : suc (suc s) < 2 = All-head (λ b. b < 2) (suc (suc s)) bits b in omega arith)

pub code_back : (n front : ℕ) (language : List ℕ → Type 0) (bits rest : List ℕ) → AreBits bits → length bits ≡ n
    → is_in_set82 (front * 2 ^ n + number_of bits) ≡ true → language rest → Code n front language (bits ++ rest)
code_back n front language bits rest b l c h = bits_code n front language bits rest b l c h
