-- Control words and their bits.
use Rattle.std.proofs.Common.{◌≡◌, ◌+◌, ◌<◌, ◌≤◌, ◌^◌, ◌==◌, ℕ, zero, suc, List, [], ◌∷◌, ◌++◌, length, take, drop, refl, sym, ap, ◌∙◌, arith, length-append, append_assoc, Bool, true, false}
use Rattle.std.proofs.lemmas.List.{length-take-le, take-append-drop, drop_at}
use Rattle.std.proofs.lemmas.List.Elements.{All-take}
use Rattle.gs_bits.specs.Bits.{AreBits, bits_of, number_of}
use Rattle.gs_bits.specs.BitLaws.{bits_of-number_of, number_of-below, length-bits_of}
use Rattle.gs_membank.specs.declared.dump.ControlWord.{ControlWord}
use Rattle.gs_membank.specs.Banks.{BeginsWith, bit_of, control_bits}

-- ---- bits that are taken

taken_bits : (n : ℕ) (bits : List ℕ) → AreBits bits → n ≤ length bits → (number_of (take n bits) < 2 ^ n) × (take n bits ≡ bits_of n (number_of (take n bits)))
taken_bits n bits are room =
    let count = length-take-le n bits room in
    let part : AreBits (take n bits) = All-take (λ b. b < 2) n bits are in
    (rw count at (number_of-below (take n bits) part), sym (rw count at (bits_of-number_of (take n bits) part)))

pub taken_small : (n number : ℕ) (bits : List ℕ) → AreBits bits → n ≤ length bits → number ≡ number_of (take n bits) → number < 2 ^ n
taken_small n number bits are room is = rw is (taken_bits n bits are room).0

pub taken_joined : (n number : ℕ) (bits behind : List ℕ) → AreBits bits → n ≤ length bits → number ≡ number_of (take n bits)
    → behind ≡ drop n bits → bits ≡ bits_of n number ++ behind
taken_joined n number bits behind are room is left =
    rw (is, left) (sym (take-append-drop n bits) ∙ ap (λ w. w ++ drop n bits) (taken_bits n bits are room).1)

-- ---- one bit

one_bit : (number : ℕ) → number < 2 → bits_of 1 number ≡ bit_of (number == 1) ∷ []
unfolding bits_of
one_bit zero small = refl
one_bit (suc zero) small = refl
one_bit (suc (suc n)) small = absurd (omega arith)

pub flag_bit : (set : Bool) (number : ℕ) → number ≡ bit_of set → bits_of 1 number ≡ bit_of set ∷ []
unfolding bits_of
flag_bit true number is = rw is refl
flag_bit false number is = rw is refl

-- ---- the control word of 16 bits

pub taken_length : (n number : ℕ) (bits behind : List ℕ) → bits ≡ bits_of n number ++ behind → length bits ≡ n + length behind
taken_length n number bits behind joined =
    let whole = length-append (bits_of n number) behind in
    let count = length-bits_of n number in
    ap length joined ∙ omega arith

abbrev pub word_with : ℕ → ℕ → ℕ → ℕ → ℕ → ControlWord
word_with words user extended toggle attributes =
    record { words = words; user = user == 1; extended = extended == 1; toggle = toggle == 1; attributes = attributes }

-- a word is taken field by field
pub record FieldsTaken (words user extended toggle attributes : ℕ) (b0 b1 b2 b3 b4 b5 : List ℕ) : Type 0 where
  pub words_are : b0 ≡ bits_of 5 words ++ b1
  pub user_is : b1 ≡ bits_of 1 user ++ b2
  pub extended_is : b2 ≡ bits_of 1 extended ++ b3
  pub toggle_is : b3 ≡ bits_of 1 toggle ++ b4
  pub attributes_are : b4 ≡ bits_of 8 attributes ++ b5

taken_whole : (words user extended toggle attributes : ℕ) (b0 b1 b2 b3 b4 b5 : List ℕ) → user < 2 → extended < 2 → toggle < 2
    → FieldsTaken words user extended toggle attributes b0 b1 b2 b3 b4 b5
    → b0 ≡ control_bits (word_with words user extended toggle attributes) ++ b5
taken_whole words user extended toggle attributes b0 b1 b2 b3 b4 b5 u e t taken =
    let last : b4 ≡ bits_of 8 attributes ++ b5 = taken.attributes_are in
    let fourth : b3 ≡ bit_of (toggle == 1) ∷ (bits_of 8 attributes ++ b5) = taken.toggle_is ∙ rw (one_bit toggle t, last) refl in
    let third : b2 ≡ bit_of (extended == 1) ∷ bit_of (toggle == 1) ∷ (bits_of 8 attributes ++ b5) = taken.extended_is ∙ rw (one_bit extended e, fourth) refl in
    let second : b1 ≡ bit_of (user == 1) ∷ bit_of (extended == 1) ∷ bit_of (toggle == 1) ∷ (bits_of 8 attributes ++ b5) = taken.user_is ∙ rw (one_bit user u, third) refl in
    taken.words_are ∙ ap (λ w. bits_of 5 words ++ w) second ∙ sym
    (append_assoc (bits_of 5 words) (bit_of (user == 1) ∷ bit_of (extended == 1) ∷ bit_of (toggle == 1) ∷ bits_of 8 attributes) b5)

pub word_taken : (words user extended toggle attributes : ℕ) (b0 b1 b2 b3 b4 b5 : List ℕ) → words < 2 ^ 5 → user < 2 ^ 1 → extended < 2 ^ 1
    → toggle < 2 ^ 1 → attributes < 2 ^ 8 → FieldsTaken words user extended toggle attributes b0 b1 b2 b3 b4 b5
    → BeginsWith b0 (word_with words user extended toggle attributes) b5
word_taken words user extended toggle attributes b0 b1 b2 b3 b4 b5 w u e t a taken = record {
  words = omega arith;
  attributes = omega arith;
  joined = taken_whole words user extended toggle attributes b0 b1 b2 b3 b4 b5 (omega arith) (omega arith) (omega arith) taken;
}

pub word_length : (word : ControlWord) → length (control_bits word) ≡ 16
word_length word =
    let whole = length-append (bits_of 5 word.words) (bit_of word.user ∷ bit_of word.extended ∷ bit_of word.toggle ∷ bits_of 8 word.attributes) in
    let five = length-bits_of 5 word.words in
    let eight = length-bits_of 8 word.attributes in
    omega arith

-- the bits after the word are those after 16 bits
pub behind_word : (bits behind : List ℕ) (word : ControlWord) → BeginsWith bits word behind → drop 16 bits ≡ behind
behind_word bits behind word begins = ap (drop 16) begins.joined ∙ (drop_at (control_bits word) behind 16 (word_length word))

pub behind_length : (bits behind : List ℕ) (word : ControlWord) → BeginsWith bits word behind → length bits ≡ 16 + length behind
behind_length bits behind word begins =
    let whole = length-append (control_bits word) behind in
    let front = word_length word in
    ap length begins.joined ∙ omega arith

-- ---- a control word is written field by field

pub pushed_length : (n number : ℕ) (old new : List ℕ) → new ≡ old ++ bits_of n number → length new ≡ length old + n
pushed_length n number old new pushed =
    let whole = length-append old (bits_of n number) in
    let count = length-bits_of n number in
    ap length pushed ∙ omega arith

pub word_pushed : (word : ControlWord) (b0 b1 b2 b3 b4 b5 : List ℕ) → b0 ≡ [] → b1 ≡ b0 ++ bits_of 5 word.words
    → b2 ≡ b1 ++ bit_of word.user ∷ [] → b3 ≡ b2 ++ bit_of word.extended ∷ [] → b4 ≡ b3 ++ bit_of word.toggle ∷ []
    → b5 ≡ b4 ++ bits_of 8 word.attributes
    → b5 ≡ control_bits word
word_pushed word b0 b1 b2 b3 b4 b5 none p1 p2 p3 p4 p5 =
    let first : b1 ≡ bits_of 5 word.words = rw (p1, none) refl in
    let second : b2 ≡ bits_of 5 word.words ++ bit_of word.user ∷ [] = rw (p2, first) refl in
    let third : b3 ≡ bits_of 5 word.words ++ bit_of word.user ∷ bit_of word.extended ∷ [] =
    rw (p3, second) (append_assoc (bits_of 5 word.words) (bit_of word.user ∷ []) (bit_of word.extended ∷ [])) in
    let fourth : b4 ≡ bits_of 5 word.words ++ bit_of word.user ∷ bit_of word.extended ∷ bit_of word.toggle ∷ [] =
    rw (p4, third) (append_assoc (bits_of 5 word.words) (bit_of word.user ∷ bit_of word.extended ∷ []) (bit_of word.toggle ∷ [])) in
    rw (p5, fourth) (append_assoc (bits_of 5 word.words) (bit_of word.user ∷ bit_of word.extended ∷ bit_of word.toggle ∷ []) (bits_of 8 word.attributes))

pub flag_length : (set : Bool) (old new : List ℕ) → new ≡ old ++ bit_of set ∷ [] → length new ≡ length old + 1
flag_length set old new pushed =
    let whole = length-append old (bit_of set ∷ []) in
    ap length pushed ∙ omega arith
