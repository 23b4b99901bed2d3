-- The symbols that are at fixed places in each list that the items of an option derive.
use Rattle.std.specs.Prelude.{◌≡◌, ◌<◌, ◌≤◌, ◌*◌, ◌⊎◌, ℕ, List, [], ◌∷◌, Some, map, replicate, slice_get}
use Rattle.gs_grammar.specs.declared.item.Item.{Item}
use Rattle.gs_grammar.specs.declared.item.Item.TheVariants.{Lit, Pad, Digits, Int, Esc, NumPad, Num, NumStr, Ascii7, Fill}
use Rattle.gs_grammar.specs.Items.{size_of, shortest_of}
use Rattle.gs_grammar.specs.Derivations.{Derives, IsDerived}
use Rattle.gs_grammar.specs.Levels.{OptionForm}
use Rattle.gs_grammar_level.specs.declared.fronts.Place.{Place}
use Rattle.gs_grammar_level.specs.declared.fronts.Front.{Front}
use Rattle.gs_grammar_level.specs.OptionMachines.{FitEach}

-- the place of the symbols from the least to the most
abbrev pub place_of : ℕ → ℕ → Place
place_of least most = record { least = least; most = most }

-- holds if the symbol may be at the place
pub record MayStand (place : Place) (symbol : ℕ) : Type 0 where
  pub least : place.least ≤ symbol
  pub most : symbol ≤ place.most

-- holds if each symbol that has a place may be at it, and there is a symbol for each place
abbrev pub StandWithin : List Place → List ℕ → Type 0
StandWithin [] w = Unit {0}
StandWithin (place ∷ places) [] = ⊥
StandWithin (place ∷ places) (symbol ∷ w) = MayStand place symbol × StandWithin places w

-- The places of the words of an item whose words have one length. Those of a literal have one symbol each, those of digits the
-- digits, those of numbers and of packed characters the bits.
abbrev pub places_of : Item → List Place
places_of (Lit literal) = map (λ symbol. place_of symbol symbol) literal
places_of (Pad n) = replicate n (place_of 48 57)
places_of (Digits lo hi) = replicate hi (place_of 48 57)
places_of (Int most) = replicate (size_of (Int most)) (place_of 48 57)
places_of (Esc lo hi) = replicate (3 * hi) (place_of 0 255)
places_of (NumPad bits n) = replicate bits (place_of 0 1)
places_of (Num bits most) = replicate bits (place_of 0 1)
places_of (NumStr bits hi) = replicate bits (place_of 0 1)
places_of (Ascii7 lo hi bits) = replicate bits (place_of 0 1)
places_of (Fill a b) = replicate b (place_of 0 0)

-- holds if each list that the items derive has these places at its start
pub record HavePlaces (items : List Item) (places : List Place) : Type 0 where
  pub within : (w : List ℕ) → IsDerived items w → StandWithin places w

-- holds if the words of each item before the last have one length
abbrev pub CutsAreFixed : List Item → Type 0
CutsAreFixed [] = Unit {0}
CutsAreFixed (item ∷ []) = Unit {0}
CutsAreFixed (item ∷ next ∷ others) = (shortest_of item ≡ size_of item) × CutsAreFixed (next ∷ others)

-- holds if no list of symbols has two derivations by the items
pub record ReadAlone (items : List Item) : Type 0 where
  pub only : (w : List ℕ) (values words others others' : List (List ℕ)) → Derives items w values words → Derives items w others others' → words ≡ others'

-- holds if the `Front` is that of the option: its places are at the start of each of its texts
abbrev pub IsFrontOf : Front → OptionForm → Type 0
IsFrontOf front option = HavePlaces option.items front.places

-- holds if the fronts are those of the options, one for each, in the same order
abbrev pub AreFrontsOf : List Front → List OptionForm → Type 0
AreFrontsOf fronts options = FitEach IsFrontOf fronts options

-- holds if no symbol may be at both places
abbrev pub ArePlacesApart : Place → Place → Type 0
ArePlacesApart place other = (place.most < other.least) ⊎ (other.most < place.least)

-- holds if at some place no symbol may be at that of both
pub record AreApart (places others : List Place) : Type 0 where
  pub number : ℕ
  pub place : Place
  pub other : Place
  pub place_at : slice_get places number ≡ Some place
  pub other_at : slice_get others number ≡ Some other
  pub apart : ArePlacesApart place other
