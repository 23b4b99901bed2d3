-- The text written by an option of bits has as many bits as its items.
use Rattle.std.proofs.Common.{◌≡◌, ℕ, ◌+◌, ◌-◌, ◌*◌, ◌%◌, ◌≤◌, Bool, true, false, not, List, [], ◌∷◌, ◌++◌, length, position, replicate, None, refl, ap, ◌∙◌, arith, length-append}
use Rattle.std.specs.List.{flat_map}
use Rattle.std.proofs.lemmas.List.{length-replicate}
use Rattle.gs_bits.specs.Bits.{bits_of}
use Rattle.gs_bits.specs.BitLaws.{length-bits_of}
use Rattle.gs_grammar.specs.declared.item.Item.{Item}
use Rattle.gs_grammar.specs.declared.item.Item.TheVariants.{Lit, Pad, Digits, Int, Esc, NumPad, Num, NumStr, Ascii7, Fill}
use Rattle.gs_grammar.specs.Items.{is_bad, is_in_bounds, size_of, size_of_all}
use Rattle.gs_grammar.specs.Words.{decimal_value, written_word}
use Rattle.gs_grammar.specs.WrittenWords.{AreHeld, why_not, written}
use Rattle.gs_grammar.proofs.HoldLemmas.{packed_length}
use Rattle.gs_grammar.proofs.WritingLemmas.{ascii_held, shift}
use Rattle.gs_chars.proofs.Searches.{cons_none}

zeros_count : (n : ℕ) → length (replicate {A = ℕ} n 0) ≡ n
zeros_count n = length-replicate {A = ℕ} n 0

packed_count : (bits : ℕ) (value : List ℕ) → 7 * length value ≤ bits → length
    (flat_map (bits_of 7) value ++ replicate {A = ℕ} (bits - 7 * length value) 0) ≡ bits
packed_count bits value room =
    let whole : length (flat_map (bits_of 7) value ++ replicate {A = ℕ} (bits - 7 * length value) 0) ≡ length (flat_map (bits_of 7) value) + length (replicate {A = ℕ} (bits - 7 * length value) 0) = length-append (flat_map (bits_of 7) value) (replicate {A = ℕ} (bits - 7 * length value) 0) in
    let first = packed_length value in
    let others = zeros_count (bits - 7 * length value) in
    omega arith

word_size : (item : Item) (value : List ℕ) → is_in_bounds true item ≡ true → why_not item value ≡ None → length (written_word item value) ≡ size_of item
word_size (Lit literal) value bounds held = refl
word_size (Pad n) value bounds held = absurd (let e : false ≡ true = bounds in cc)
word_size (Digits lo hi) value bounds held = absurd (let e : false ≡ true = bounds in cc)
word_size (Int greatest) value bounds held = absurd (let e : false ≡ true = bounds in cc)
word_size (Esc lo hi) value bounds held = absurd (let e : false ≡ true = bounds in cc)
word_size (NumPad bits n) value bounds held = length-bits_of bits (decimal_value value)
word_size (Num bits greatest) value bounds held = length-bits_of bits (decimal_value value)
word_size (NumStr bits hi) value bounds held = length-bits_of bits (decimal_value (49 ∷ value))
word_size (Ascii7 lo hi bits) value bounds held = packed_count bits value (ascii_held (Ascii7 lo hi bits) lo hi bits value refl bounds held).1
word_size (Fill a b) value bounds held = zeros_count b

pub in_bounds : (item : Item) → is_bad true item ≡ false → is_in_bounds true item ≡ true
in_bounds item h = kept (is_in_bounds true item) h
  where
    kept : (b : Bool) → not b ≡ false → b ≡ true
    kept true e = refl
    kept false e = absurd (let f : true ≡ false = e in cc)

pub written_count : (items : List Item) (values : List (List ℕ)) → position (is_bad true) items ≡ None → length values ≡ length items
    → AreHeld items values → length (written items values) ≡ size_of_all items
written_count [] values good one_each held = refl
written_count (item ∷ items) [] good one_each held = absurd (omega arith)
written_count (item ∷ items) (value ∷ values) good one_each held =
    let parts = cons_none (is_bad true) item items good in
    let first = word_size item value (in_bounds item parts.0) (held 0 item value (omega arith) refl refl) in
    let others = written_count items values parts.1 (omega arith) (shift item items value values held) in
    let whole = length-append (written_word item value) (written items values) in
    omega arith

-- whole bytes are written if the items are whole bytes
pub whole_bytes : (bits : Bool) (items : List Item) (values : List (List ℕ)) (first out : List ℕ) → bits ≡ true
    → position (is_bad bits) items ≡ None → length values ≡ length items → AreHeld items values → size_of_all items % 8 ≡ 0 → first ≡ []
    → out ≡ first ++ written items values → length out % 8 ≡ 0
whole_bytes bits items values first out is good one_each held whole none made =
    let same : out ≡ written items values = rw none at made in
    let count : length out ≡ size_of_all items = ap length same ∙ written_count items values (rw is at good) one_each held in
    ap (λ n. n % 8) count ∙ whole
