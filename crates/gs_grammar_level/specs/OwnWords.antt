-- The words of a text or of bits between fixed places, and the values that they have by themselves.
use Rattle.std.specs.Prelude.{ℕ, ◌-◌, List, [], ◌∷◌, take, drop}
use Rattle.gs_bits.specs.Bits.{number_of}
use Rattle.gs_grammar.specs.declared.item.Item.{Item}
use Rattle.gs_grammar.specs.Levels.{OptionForm, item_lists}
use Rattle.gs_grammar.specs.NumberWords.{number_value}
use Rattle.gs_grammar.specs.Words.{own_value}
use Rattle.gs_grammar_level.specs.Readings.{Reads}
use Rattle.gs_grammar_level.specs.declared.read.Reading.TheVariants.{One}

-- trusted, own: the option and the values of a reading
pub record WordsForm : Type 0 where
  pub option : ℕ
  pub values : List (List ℕ)

-- trusted, own: holds if `words` are the option and the values of the only derivation of `w` in the level of `options`
abbrev pub FindsWords : List OptionForm → List ℕ → WordsForm → Type 0
FindsWords options w words = Reads (item_lists options) w (One words.option words.values)

-- the part of a text from the first place up to the second, and to the end if there is no second
abbrev pub word_at : List ℕ → List ℕ → List ℕ
word_at [] w = []
word_at (from ∷ []) w = drop from w
word_at (from ∷ to ∷ places) w = take (to - from) (drop from w)

-- the values of items whose words begin at these places, by the value of an item and a word
abbrev pub values_by : (Item → List ℕ → List ℕ) → List Item → List ℕ → List ℕ → List (List ℕ)
values_by value [] places w = []
values_by value (item ∷ items) places w = value item (word_at places w) ∷ values_by value items (drop 1 places) w

-- the values of words that are their own values
abbrev pub own_values : List Item → List ℕ → List ℕ → List (List ℕ)
own_values items places w = values_by own_value items places w

-- the value of a word in bits
abbrev pub bit_value : Item → List ℕ → List ℕ
bit_value item w = number_value item (number_of w)

-- the values of words in bits
abbrev pub bit_values : List Item → List ℕ → List ℕ → List (List ℕ)
bit_values items places w = values_by bit_value items places w
