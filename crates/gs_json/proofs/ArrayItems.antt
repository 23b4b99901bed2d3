-- The items of an array, seen one by one.
use Rattle.std.proofs.Common.{◌≡◌, ℕ, zero, suc, List, [], ◌∷◌, length, map, refl, slice_get, ap}
use Rattle.serde_json.specs.Data.{Data, null, boolean, number, string, array, object, Items, no_items, item}
use Rattle.serde_json.specs.Events.{items_len}
use Rattle.serde_json.specs.Find.{at, get_item}
use Rattle.serde_json.specs.View.{items_view, view}
use Rattle.serde_json.specs.declared.value.Value.{Value as Tree}
use Rattle.gs_json.specs.Answers.{items_count}
use Rattle.gs_json.specs.Members.{items_of}
use Rattle.gs_json.specs.Shapes.{items_list}

-- the items that a tree keeps are those of its view
pub listed : (values : List Tree) → map view values ≡ items_list (items_view values)
listed [] = refl
listed (value ∷ values) = ap (λ items. view value ∷ items) (listed values)

listed_length : (items : Items) → length (items_list items) ≡ items_len items
listed_length no_items = refl
listed_length (item d items) = ap suc (listed_length items)

-- there are as many items as are counted
pub items_length : (d : Data) → length (items_of d) ≡ items_count d
items_length null = refl
items_length (boolean b) = refl
items_length (number n) = refl
items_length (string s) = refl
items_length (array items) = listed_length items
items_length (object _) = refl

listed_at : (items : Items) (i : ℕ) → slice_get (items_list items) i ≡ get_item i items
listed_at no_items zero = refl
listed_at no_items (suc i) = refl
listed_at (item d items) zero = refl
listed_at (item d items) (suc i) = listed_at items i

-- the item at a number
pub items_at : (d : Data) (i : ℕ) → slice_get (items_of d) i ≡ at i d
items_at null zero = refl
items_at null (suc i) = refl
items_at (boolean b) zero = refl
items_at (boolean b) (suc i) = refl
items_at (number n) zero = refl
items_at (number n) (suc i) = refl
items_at (string s) zero = refl
items_at (string s) (suc i) = refl
items_at (array items) i = listed_at items i
items_at (object _) zero = refl
items_at (object _) (suc i) = refl
