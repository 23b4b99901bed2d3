-- The symbols of the words of a bit level are bits.
use Rattle.std.proofs.Common.{◌≡◌, ℕ, ◌<◌, Bool, true, false, All, List, [], ◌∷◌, inl, inr, arith}
use Rattle.std.specs.Prelude.{flat_map, replicate}
use Rattle.std.specs.List.{list_all}
use Rattle.std.proofs.lemmas.Bool.Decides.{nat_tests}
use Rattle.std.proofs.lemmas.List.Elements.{All-nil, All-cons, All-head, All-tail, All-append, All-replicate}
use Rattle.gs_chars.proofs.TruthsAndLists.{and_first, and_second}
use Rattle.gs_bits.specs.Bits.{AreBits, bits_of}
use Rattle.gs_bits.specs.BitLaws.{AreBits-bits_of}
use Rattle.gs_grammar.specs.declared.item.Item.{Item}
use Rattle.gs_grammar.specs.declared.item.Item.TheVariants.{Lit, Pad, Digits, Int, Esc, NumPad, Num, NumStr, Ascii7, Fill}
use Rattle.gs_grammar.specs.Items.{is_symbol, is_in_bounds}
use Rattle.gs_grammar.specs.Words.{Word, IsPacked}
use Rattle.gs_grammar.specs.Derivations.{Derives}
use Rattle.gs_grammar.specs.Levels.{KeepBounds}
use Rattle.gs_grammar.proofs.Cuts.{derives_uncons, derives_nil}
use Rattle.gs_grammar.proofs.Packs.{writes_bits}
use Rattle.gs_grammar.proofs.WordLaws.{none_bad}

literal_bits : (w : List ℕ) → list_all (is_symbol true) w ≡ true → AreBits w
literal_bits [] h = All-nil (λ b. b < 2)
literal_bits (b ∷ w) h =
    let first = and_first (is_symbol true b) (list_all (is_symbol true) w) h in
    All-cons (λ b. b < 2) b w (grind (arith, nat_tests)) (literal_bits w (and_second (is_symbol true b) (list_all (is_symbol true) w) h))

zero_bits : (n : ℕ) → AreBits (replicate n 0)
zero_bits n = All-replicate (λ b. b < 2) n 0 (omega arith)

pub code_bits : (value : List ℕ) → AreBits (flat_map (bits_of 7) value)
code_bits [] = All-nil (λ b. b < 2)
code_bits (c ∷ value) = All-append (λ b. b < 2) (bits_of 7 c) (flat_map (bits_of 7) value) (AreBits-bits_of 7 c) (code_bits value)

pub packed_bits : (value w : List ℕ) → IsPacked value w → AreBits w
packed_bits value w h = rw h.packed (All-append (λ b. b < 2) (flat_map (bits_of 7) value) (replicate h.padding 0) (code_bits value) (zero_bits h.padding))

not_here : false ≡ true → ⊥
not_here e = cc

word_bits : (item : Item) (value w : List ℕ) → is_in_bounds true item ≡ true → Word item value w → AreBits w
word_bits (Lit literal) value w i h = rw h.1 (literal_bits literal (and_second _ _ i))
word_bits (Pad n) value w i h = absurd (not_here i)
word_bits (Digits lo hi) value w i h = absurd (not_here i)
word_bits (Int greatest) value w i h = absurd (not_here i)
word_bits (Esc lo hi) value w i h = absurd (not_here i)
word_bits (NumPad bits n) value w i h = writes_bits bits _ w h.2
word_bits (Num bits greatest) value w i h = writes_bits bits _ w h.1.1
word_bits (NumStr bits hi) value w i h = writes_bits bits _ w h.2
word_bits (Ascii7 lo hi bits) value w i h = packed_bits value w h.1
word_bits (Fill a b) value w i h = elim h.1 as (λ _. AreBits w) [
  | inl e ↦ rw e (zero_bits a)
  | inr e ↦ rw e (zero_bits b)
]

derived_bits : (items : List Item) (w : List ℕ) (values words : List (List ℕ)) → All (λ item. is_in_bounds true item ≡ true) items
    → Derives items w values words → AreBits w
derived_bits [] w values words i d = rw (derives_nil w values words d).0 (All-nil (λ b. b < 2))
derived_bits (item ∷ items) w values words i d =
    let u = derives_uncons item items w values words d in
    let first = word_bits item u.value u.first (All-head (λ item. is_in_bounds true item ≡ true) item items i) u.word in
    let rest = derived_bits items u.rest u.values' u.words' (All-tail (λ item. is_in_bounds true item ≡ true) item items i) u.derives in
    rw u.whole (All-append (λ b. b < 2) u.first u.rest first rest)

pub bits_of_option : (bit_level : Bool) (items : List Item) (w : List ℕ) (values words : List (List ℕ)) → bit_level ≡ true
    → KeepBounds bit_level items → Derives items w values words → AreBits w
bits_of_option bit_level items w values words e k d =
    let bounds : KeepBounds true items = rw e at k in
    derived_bits items w values words (none_bad true items bounds.none_bad) d
