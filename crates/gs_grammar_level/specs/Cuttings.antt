-- The way in which the texts of each option of a level are cut.
use Rattle.std.specs.Prelude.{◌≡◌, ℕ, ◌+◌, List, [], ◌∷◌, All, Some, slice_get}
use Rattle.gs_grammar.specs.declared.item.Item.{Item}
use Rattle.gs_grammar.specs.Derivations.{IsDerived}
use Rattle.gs_grammar.specs.Items.{IsItem, size_of}
use Rattle.gs_grammar.specs.Levels.{OptionForm}
use Rattle.gs_grammar_level.specs.declared.cuttings.Cutting.{Cutting}
use Rattle.gs_grammar_level.specs.declared.cuttings.Cutting.TheVariants.{Widths, Machine}
use Rattle.gs_grammar_level.specs.Fronts.{CutsAreFixed, ReadAlone}
use Rattle.gs_grammar_level.specs.OptionMachines.{FitEach}

-- the start places of items, the first at this place, if each word has the size of its item
abbrev pub starts_of : ℕ → List Item → List ℕ
starts_of place [] = []
starts_of place (item ∷ items) = place ∷ starts_of (place + size_of item) items

-- holds if the words of each item before the last have one length, no text has two derivations, and the items begin at these
-- places
pub record AreWidthsOf (places : List ℕ) (option : OptionForm) : Type 0 where
  pub fixed : CutsAreFixed option.items
  pub alone : ReadAlone option.items
  pub places_are : places ≡ starts_of 0 option.items

-- holds if the way is right for the option; that by its machine is right for each
abbrev pub IsCuttingOf : Cutting → OptionForm → Type 0
IsCuttingOf (Widths places) option = AreWidthsOf places option
IsCuttingOf Machine option = Unit {0}

-- holds if there is one way for each option, in the same order, and each is right for its option
abbrev pub AreCuttingsOf : List Cutting → List OptionForm → Type 0
AreCuttingsOf cuttings options = FitEach IsCuttingOf cuttings options

-- holds if these are the items of the option of this number, and the places at which their words begin in each of its texts
pub record IsFixedCut (options : List OptionForm) (number : ℕ) (items : List Item) (places : List ℕ) : Type 0 where
  pub option : OptionForm
  pub at : slice_get options number ≡ Some option
  pub items_are : items ≡ option.items
  pub each : All IsItem items
  pub fixed : CutsAreFixed items
  pub places_are : places ≡ starts_of 0 items

-- holds if the items derive the list by words that begin at these places
pub record IsCutAt (items : List Item) (places w : List ℕ) : Type 0 where
  pub each : All IsItem items
  pub fixed : CutsAreFixed items
  pub places_are : places ≡ starts_of 0 items
  pub derived : IsDerived items w
