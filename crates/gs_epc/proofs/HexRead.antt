-- Bits that are written as hexadecimal digits are read again.
use Rattle.std.proofs.Common.{◌≡◌, ℕ, ◌*◌, ◌%◌, ◌^◌, ◌<◌, true, false, List, [], ◌∷◌, length, position, replicate, None, refl, sym, ap, ◌∙◌, arith}
use Rattle.std.specs.Prelude.{is_some, unwrap_or}
use Rattle.std.specs.List.{AllPass, flat_map}
use Rattle.std.proofs.lemmas.List.Elements.{All-append, All-cons, All-head, All-nil, All-replicate, All-tail}
use Rattle.gs_chars.specs.Escapes.{hex_digit, hex_value}
use Rattle.gs_bits.specs.Bits.{AreBits, bits_of, number_of}
use Rattle.gs_bits.specs.BitLaws.{AreBits-bits_of, bits_of-number_of, number_of-below}
use Rattle.gs_bits.specs.HexText.{bits_of_hex, hex_of_bits, is_hex_digit}
use Rattle.gs_grammar.specs.declared.item.Item.{Item}
use Rattle.gs_grammar.specs.declared.item.Item.TheVariants.{Lit, Pad, Digits, Int, Esc, NumPad, Num, NumStr, Ascii7, Fill}
use Rattle.gs_grammar.specs.Items.{is_bad, is_in_bounds}
use Rattle.gs_grammar.specs.Words.{decimal_value, written_word}
use Rattle.gs_grammar.specs.WrittenWords.{written}
use Rattle.gs_grammar.proofs.WritingLemmas.{lit_bits}
use Rattle.gs_epc.proofs.WrittenSizes.{in_bounds}
use Rattle.gs_chars.proofs.Spellings.{digit_reads}
use Rattle.gs_grammar_level.proofs.BitSymbols.{code_bits as packed_bits}
use Rattle.gs_chars.proofs.Searches.{cons_none}

-- ---- the text written by an option of bits is bits

zero_bits : (n : ℕ) → AreBits (replicate {A = ℕ} n 0)
zero_bits n = All-replicate (λ b. b < 2) n 0 (omega arith)

word_bits : (item : Item) (value : List ℕ) → is_in_bounds true item ≡ true → AreBits (written_word item value)
word_bits (Lit literal) value bounds = lit_bits (Lit literal) literal refl bounds
word_bits (Pad n) value bounds = absurd (let e : false ≡ true = bounds in cc)
word_bits (Digits lo hi) value bounds = absurd (let e : false ≡ true = bounds in cc)
word_bits (Int greatest) value bounds = absurd (let e : false ≡ true = bounds in cc)
word_bits (Esc lo hi) value bounds = absurd (let e : false ≡ true = bounds in cc)
word_bits (NumPad bits n) value bounds = AreBits-bits_of bits (decimal_value value)
word_bits (Num bits greatest) value bounds = AreBits-bits_of bits (decimal_value value)
word_bits (NumStr bits hi) value bounds = AreBits-bits_of bits (decimal_value (49 ∷ value))
word_bits (Ascii7 lo hi bits) value bounds = All-append (λ b. b < 2) (flat_map (bits_of 7) value) _ (packed_bits value) (zero_bits _)
word_bits (Fill a b) value bounds = zero_bits b

pub written_bits : (items : List Item) (values : List (List ℕ)) → position (is_bad true) items ≡ None → AreBits (written items values)
written_bits [] values good = All-nil (λ b. b < 2)
written_bits (item ∷ items) [] good = All-nil (λ b. b < 2)
written_bits (item ∷ items) (value ∷ values) good =
    let parts = cons_none (is_bad true) item items good in
    All-append (λ b. b < 2) (written_word item value) (written items values) (word_bits item value (in_bounds item parts.0)) (written_bits items values parts.1)

-- ---- digits of bits

four_read : (four : List ℕ) → AreBits four → length four ≡ 4 → bits_of 4 (unwrap_or (hex_value (hex_digit (number_of four))) 0) ≡ four
four_read four are count =
    let below = number_of-below four are in
    let small : number_of four < 16 = let e : 2 ^ length four ≡ 16 = ap (λ n. 2 ^ n) count in omega arith in
    let value = digit_reads (number_of four) small in
    let bits : bits_of (length four) (number_of four) ≡ four = bits_of-number_of four are in
    rw value (ap (λ n. bits_of n (number_of four)) (sym count) ∙ bits)

tail_of : (b : ℕ) (bits : List ℕ) → AreBits (b ∷ bits) → AreBits bits
tail_of b bits are = All-tail (λ b. b < 2) b bits are

head_of : (b : ℕ) (bits : List ℕ) → AreBits (b ∷ bits) → b < 2
head_of b bits are = All-head (λ b. b < 2) b bits are

pub hex_read : (bits : List ℕ) → AreBits bits → length bits % 4 ≡ 0 → bits_of_hex (hex_of_bits bits) ≡ bits
hex_read [] are whole = refl
hex_read (a ∷ []) are whole = absurd (omega arith)
hex_read (a ∷ b ∷ []) are whole = absurd (omega arith)
hex_read (a ∷ b ∷ c ∷ []) are whole = absurd (omega arith)
hex_read (a ∷ b ∷ c ∷ d ∷ bits) are whole =
    let second = tail_of a (b ∷ c ∷ d ∷ bits) are in
    let third = tail_of b (c ∷ d ∷ bits) second in
    let fourth = tail_of c (d ∷ bits) third in
    let rest = tail_of d bits fourth in
    let four : AreBits (a ∷ b ∷ c ∷ d ∷ []) =
    All-cons (λ b. b < 2) a (b ∷ c ∷ d ∷ []) (head_of a (b ∷ c ∷ d ∷ bits) are)
    (All-cons (λ b. b < 2) b (c ∷ d ∷ []) (head_of b (c ∷ d ∷ bits) second) (All-cons (λ b. b < 2) c (d ∷ []) (head_of c (d ∷ bits) third) (All-cons (λ b. b < 2) d [] (head_of d bits fourth) (All-nil (λ b. b < 2))))) in
    let first = four_read (a ∷ b ∷ c ∷ d ∷ []) four refl in
    let others = hex_read bits rest (omega arith) in
    rw (first, others) refl

-- each digit of bits is a hexadecimal digit, and stands for four bits
pub record HexDigits (bits : List ℕ) : Type 0 where
  pub digits : AllPass is_hex_digit (hex_of_bits bits)
  pub count : 4 * length (hex_of_bits bits) ≡ length bits

four_digit : (four : List ℕ) → AreBits four → length four ≡ 4 → is_hex_digit (hex_digit (number_of four)) ≡ true
four_digit four are count =
    let below = number_of-below four are in
    let small : number_of four < 16 = let e : 2 ^ length four ≡ 16 = ap (λ n. 2 ^ n) count in omega arith in
    ap is_some (digit_reads (number_of four) small)

pub hex_digits : (bits : List ℕ) → AreBits bits → length bits % 4 ≡ 0 → HexDigits bits
hex_digits [] are whole = record { digits = All-nil (λ x. is_hex_digit x ≡ true); count = refl }
hex_digits (a ∷ []) are whole = absurd (omega arith)
hex_digits (a ∷ b ∷ []) are whole = absurd (omega arith)
hex_digits (a ∷ b ∷ c ∷ []) are whole = absurd (omega arith)
hex_digits (a ∷ b ∷ c ∷ d ∷ bits) are whole =
    let second = tail_of a (b ∷ c ∷ d ∷ bits) are in
    let third = tail_of b (c ∷ d ∷ bits) second in
    let fourth = tail_of c (d ∷ bits) third in
    let four : AreBits (a ∷ b ∷ c ∷ d ∷ []) =
    All-cons (λ b. b < 2) a (b ∷ c ∷ d ∷ []) (head_of a (b ∷ c ∷ d ∷ bits) are)
    (All-cons (λ b. b < 2) b (c ∷ d ∷ []) (head_of b (c ∷ d ∷ bits) second) (All-cons (λ b. b < 2) c (d ∷ []) (head_of c (d ∷ bits) third) (All-cons (λ b. b < 2) d [] (head_of d bits fourth) (All-nil (λ b. b < 2))))) in
    let rest = hex_digits bits (tail_of d bits fourth) (omega arith) in
    let count = rest.count in
    record {
      digits = All-cons (λ x. is_hex_digit x ≡ true) (hex_digit (number_of (a ∷ b ∷ c ∷ d ∷ []))) (hex_of_bits bits)
          (four_digit (a ∷ b ∷ c ∷ d ∷ []) four refl) rest.digits;
      count = omega arith;
    }
