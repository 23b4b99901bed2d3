-- Laws of words, of written values and of derivations, for all items and all levels. A function of src/laws.rt proves each.
use Rattle.std.specs.Prelude.{◌≡◌, ◌<◌, ◌^◌, ◌∷◌, ℕ, All, Bool, List, IsTrue, Some, length, slice_get}
use Rattle.gs_grammar.specs.declared.item.Item.{Item}
use Rattle.gs_grammar.specs.declared.item.Item.TheVariants.{NumPad, Num, NumStr}
use Rattle.gs_grammar.specs.Items.{IsItem, is_in_bounds}
use Rattle.gs_grammar.specs.Words.{Word, decimal_value, number_of_word}
use Rattle.gs_grammar.specs.WrittenWords.{AreHeld, written, written_words}
use Rattle.gs_grammar.specs.Derivations.{Derives, Derivation, OneDerivation, TwoDerivations}
use Rattle.gs_grammar.specs.Ambiguity.{IsUnambiguous}

-- trusted, own: holds if no list of symbols is a word of one item with two values
abbrev pub WordFixesValue : Type 0
WordFixesValue = (item : Item) (value other w : List ℕ) → Word item value w → Word item other w → value ≡ other

-- trusted, own: holds if the number of a word of `NumPad` is the one that its value writes
abbrev pub DigitsWriteTheirNumber : Type 0
DigitsWriteTheirNumber = (bits n : ℕ) (value w : List ℕ) → Word (NumPad bits n) value w → number_of_word (NumPad bits n) w ≡ decimal_value value

-- trusted, own: holds if the number of a word of `Num`, whose greatest is below 2 to the 64, is the one that its value writes
abbrev pub NumeralWritesItsNumber : Type 0
NumeralWritesItsNumber =
    (bits greatest : ℕ) (value w : List ℕ) → greatest < 2 ^ 64 → Word (Num bits greatest) value w → number_of_word (Num bits greatest) w ≡ decimal_value value

-- trusted, own: holds if the number of a word of `NumStr` is the one that a 1 and the value write
abbrev pub DigitsBehindOneWriteTheirNumber : Type 0
DigitsBehindOneWriteTheirNumber =
    (bits hi : ℕ) (value w : List ℕ) → Word (NumStr bits hi) value w → number_of_word (NumStr bits hi) w ≡ decimal_value (49 ∷ value)

-- trusted, own: holds if no word of an item that is within its bounds is empty
abbrev pub NoWordIsEmpty : Type 0
NoWordIsEmpty = (bit_level : Bool) (item : Item) (value w : List ℕ) → IsTrue (is_in_bounds bit_level item) → Word item value w → 0 < length w

-- trusted, own: holds if items derive the text that is written of values that they hold, with these values
abbrev pub WrittenIsDerived : Type 0
WrittenIsDerived =
    (items : List Item) (values : List (List ℕ)) → All IsItem items → length values ≡ length items → AreHeld items values
    → Derives items (written items values) values (written_words items values)

-- trusted, own: holds if, in each unambiguous level, the text written of values that an option holds has one derivation: by
-- this option, with these values
abbrev pub WrittenIsRead : Type 0
WrittenIsRead =
    (level : List (List Item)) (option : ℕ) (items : List Item) (values : List (List ℕ)) → IsUnambiguous level
    → slice_get level option ≡ Some items → All IsItem items → length values ≡ length items → AreHeld items values
    → OneDerivation level (written items values) option values

-- trusted, own: holds if the only derivation of a list of symbols has one option and one list of values
abbrev pub OneDerivationIsOneReading : Type 0
OneDerivationIsOneReading =
    (level : List (List Item)) (w : List ℕ) (option other : ℕ) (values others : List (List ℕ))
    → OneDerivation level w option values → OneDerivation level w other others → (option ≡ other) × (values ≡ others)

-- trusted, own: holds if a list of symbols with only one derivation does not have two
abbrev pub OneDerivationIsNotTwo : Type 0
OneDerivationIsNotTwo =
    (level : List (List Item)) (w : List ℕ) (option : ℕ) (values : List (List ℕ)) → OneDerivation level w option values → TwoDerivations level w → ⊥

-- trusted, own: holds if, in a level that is not ambiguous, each derivation of a list of symbols is the only one
abbrev pub UnambiguousLevelsReadAlone : Type 0
UnambiguousLevelsReadAlone =
    (level : List (List Item)) (w : List ℕ) → IsUnambiguous level → (one : Derivation level w) → OneDerivation level w one.option one.values
