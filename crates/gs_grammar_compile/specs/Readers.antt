-- Machines that read the items of an option one by one.
use Rattle.std.specs.Prelude.{◌≡◌, ℕ, ◌+◌, ◌*◌, List, [], ◌∷◌, Some, length, slice_get, slice_index}
use Rattle.gs_grammar.specs.declared.item.Item.{Item}
use Rattle.gs_grammar.specs.Items.{size_of_all}
use Rattle.gs_grammar.specs.Words.{IsWord}
use Rattle.gs_ambig.specs.declared.machine.Edge.{Edge}
use Rattle.gs_ambig.specs.Walks.{Walk}
use Rattle.gs_ambig.specs.Machines.{AutoForm}

-- trusted, own: holds if exactly one walk leads from `first` to `last` on each list of the language, and none on any other list
pub record Reads (table : List (List Edge)) (first last : ℕ) (language : List ℕ → Type 0) : Type 0 where
  pub some : (symbols : List ℕ) → language symbols → (states : List ℕ) × Walk table first states symbols last
  pub only : (symbols states others : List ℕ) → Walk table first states symbols last → Walk table first others symbols last → states ≡ others
  pub word : (symbols states : List ℕ) → Walk table first states symbols last → language symbols

-- trusted, own: Holds if the machine has one border more than there are items. Exactly one walk leads from border k to the next
-- on each word of item k, and none on any other list.
pub record ReadsItems (form : AutoForm) (items : List Item) : Type 0 where
  pub count : length form.borders ≡ length items + 1
  pub reads : (k : ℕ) (item : Item) → slice_get items k ≡ Some item → Reads form.table (slice_index form.borders k) (slice_index form.borders (k + 1)) (IsWord item)

-- trusted, own: the most states of a machine of the items: 32 for each symbol of their size, and one if there are no items
abbrev pub most_states : List Item → ℕ
most_states [] = 1
most_states (item ∷ items) = 32 * size_of_all (item ∷ items)
