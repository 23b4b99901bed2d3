-- The lengths of words by the cuts of a list.
use Rattle.std.specs.Prelude.{◌≡◌, ◌<◌, ◌≤◌, ◌-◌, ℕ, List, [], ◌∷◌, ◌++◌, length, slice_index}
use Rattle.gs_grammar.specs.declared.item.Item.{Item}
use Rattle.gs_grammar.specs.Words.{IsWord}
use Rattle.gs_grammar.specs.Derivations.{IsDerived}

-- holds if each word of the item that begins the list has this length, if the other items derive the rest
pub record HasWidth (item : Item) (others : List Item) (w : List ℕ) (width : ℕ) : Type 0 where
  pub is : (word rest : List ℕ) → w ≡ word ++ rest → IsWord item word → IsDerived others rest → length word ≡ width

-- holds if no other items follow, or there is a second cut, and it is not before the first
abbrev pub HasNextCut : List ℕ → List Item → Type 0
HasNextCut cuts [] = Unit {0}
HasNextCut cuts (next ∷ others) = (1 < length cuts) × (slice_index cuts 0 ≤ slice_index cuts 1)

-- the length of a word that other items follow: from the first cut to the second, and all that is left for the last item
abbrev pub width_by : List ℕ → List Item → List ℕ → ℕ
width_by cuts [] rest = length rest
width_by cuts (next ∷ others) rest = slice_index cuts 1 - slice_index cuts 0
