-- The errors of an object by a plan, in their order.
use Rattle.std.specs.Prelude.{ℕ, Bool, not, if◌then◌else◌, List, [], ◌∷◌, ◌++◌, map, filter, Option, Some, None, is_some, Result, option_and_then}
use Rattle.std.specs.List.{enumerate_from, flat_map, list_any}
use Rattle.std.specs.Str.{bytes_eq}
use Rattle.serde_json.specs.Data.{Data, Items, no_items, item, Members}
use Rattle.serde_json.specs.Find.{as_array, as_bool, as_number, as_object, as_str, as_u64, get_member}
use Rattle.serde_json.specs.View.{view}
use Rattle.gs_chars.specs.Answers.{first_or, OrError}
use Rattle.gs_json.specs.Answers.{names_of_members}
use Rattle.gs_json.specs.Parts.{Part}
use Rattle.gs_json.specs.Places.{member_place, item_place}
use Rattle.gs_json.specs.declared.error.JsonFault.{JsonFault}
use Rattle.gs_json.specs.declared.error.JsonFault.TheVariants.{Lacks, Kind, Unknown, Memory}
use Rattle.gs_json.specs.declared.plan.Entry.{Entry}
use Rattle.gs_json.specs.declared.plan.Sort.{Sort}
use Rattle.gs_json.specs.declared.plan.Sort.TheVariants.{Text, Number, Truth, Array, Texts, Arrays}

-- trusted, own: the list of the items
abbrev pub items_list : Items → List Data
items_list no_items = []
items_list (item d items) = d ∷ items_list items

-- trusted, own: the indices of the items that fail `test`, counted from k
abbrev pub failing_from : ℕ → (Data → Bool) → List Data → List ℕ
failing_from k test items = map (λ e. e.0) (filter (λ e. not (test e.1)) (enumerate_from k items))

-- trusted, own: the empty list if `fits` is true, otherwise the list of `Kind place`
abbrev pub kind_errors : List ℕ → Bool → List JsonFault
kind_errors place fits = if fits then [] else Kind place ∷ []

-- trusted, own: the list of `Kind` for each item that fails `test`, or for `place` if there is no array
abbrev pub items_errors : List ℕ → (Data → Bool) → Option Items → List JsonFault
items_errors place test (Some items) = map (λ i. Kind (item_place place i)) (failing_from 0 test (items_list items))
items_errors place test None = Kind place ∷ []

-- trusted, own: holds if `d` is a text
abbrev pub is_text : Data → Bool
is_text d = is_some (as_str d)

-- trusted, own: holds if `d` is an array
abbrev pub is_array : Data → Bool
is_array d = is_some (as_array d)

-- trusted, own: the errors of the value `d` at `place` by a sort
abbrev pub sort_errors : List ℕ → Sort → Data → List JsonFault
sort_errors place Text d = kind_errors place (is_text d)
sort_errors place Number d = kind_errors place (is_some (option_and_then as_u64 (as_number d)))
sort_errors place Truth d = kind_errors place (is_some (as_bool d))
sort_errors place Array d = kind_errors place (is_array d)
sort_errors place Texts d = items_errors place is_text (as_array d)
sort_errors place Arrays d = items_errors place is_array (as_array d)

-- trusted, own: the errors of the member at `place`, if the object has it, or of its absence
abbrev pub member_errors : List ℕ → Entry → Option Data → List JsonFault
member_errors place entry None = if entry.required then Lacks place ∷ [] else []
member_errors place entry (Some d) = sort_errors place entry.sort d

-- trusted, own: the errors of `members` by one entry of the plan
abbrev pub entry_errors : List ℕ → Members → Entry → List JsonFault
entry_errors place members entry = member_errors (member_place place entry.name) entry (get_member entry.name members)

-- trusted, own: holds if `plan` has an entry of the name `name`
abbrev pub is_named : List Entry → List ℕ → Bool
is_named plan name = list_any (λ entry. bytes_eq entry.name name) plan

-- trusted, own: the names without an entry in `plan`
abbrev pub unknown_among : List Entry → List (List ℕ) → List (List ℕ)
unknown_among plan names = filter (λ name. not (is_named plan name)) names

-- trusted, own: the list of `Unknown` for each of `members` without an entry in `plan`
abbrev pub unknown_errors : List ℕ → List Entry → Members → List JsonFault
unknown_errors place plan members = map (λ name. Unknown (member_place place name)) (unknown_among plan (names_of_members members))

-- trusted, own: the errors of an object: entry by entry of `plan`, then its members without an entry
abbrev pub members_errors : List ℕ → List Entry → Option Members → List JsonFault
members_errors place plan None = Kind place ∷ []
members_errors place plan (Some members) = flat_map (entry_errors place members) plan ++ unknown_errors place plan members

-- trusted, own: the errors of `part` by `plan`
abbrev pub shape_errors : Part → List Entry → List JsonFault
shape_errors part plan = members_errors part.place plan (as_object (view part.tree))

-- trusted, own: the first error
abbrev pub first_error : List JsonFault → Result Unit JsonFault
first_error errors = first_or errors tt

-- trusted, own: holds if the result is the first of `errors`, or no error, or `Memory`
abbrev pub IsFirst : Result Unit JsonFault → List JsonFault → Type 0
IsFirst result errors = OrError Memory result (first_error errors)
