-- The answers of look-ups, in `serde_json`'s words for the tree of a text. `Memory` may be returned instead of each.
use Rattle.std.specs.Prelude.{ℕ, List, [], ◌∷◌, map, Option, Some, None, option_map, unwrap_or, Result, Ok, Err}
use Rattle.std.specs.Borrow.{Bor}
use Rattle.std.specs.Cmp.Lexicographic.{slice_cmp}
use Rattle.std.specs.List.Sorted.{IsStrictlySortedBy}
use Rattle.std.specs.Ordering.{nat_cmp}
use Rattle.serde_json.specs.Data.{Data, Members, no_members, member}
use Rattle.serde_json.specs.Events.{items_len}
use Rattle.serde_json.specs.Find.{as_array, as_object, get_member}
use Rattle.serde_json.specs.View.{view}
use Rattle.gs_json.specs.Parts.{Part}
use Rattle.gs_json.specs.Places.{member_place}
use Rattle.gs_json.specs.declared.error.JsonFault.{JsonFault}
use Rattle.gs_json.specs.declared.error.JsonFault.TheVariants.{Lacks, Kind, Memory}

-- trusted, own: the result with `f` of its value
abbrev pub result_map : {X Y : Type 0} → (X → Y) → Result X JsonFault → Result Y JsonFault
result_map f (Ok x) = Ok (f x)
result_map f (Err error) = Err error

-- trusted, own: the value asked of a part, or `Kind place` if there is none
abbrev pub asked : {X : Type 0} → List ℕ → Option X → Result X JsonFault
asked place (Some x) = Ok x
asked place None = Err (Kind place)

-- trusted, own: the value and the place of `part`
abbrev pub seen : Part → Data × List ℕ
seen part = (view part.tree, part.place)

-- trusted, own: the member `name` of `members`, with its place
abbrev pub member_at : List ℕ → List ℕ → Members → Option (Data × List ℕ)
member_at place name members = option_map (λ d. (d, member_place place name)) (get_member name members)

-- trusted, own: the member `name` of `part`, if it has one, or `Kind` if `part` is not an object
abbrev pub maybe_of : Part → List ℕ → Result (Option (Data × List ℕ)) JsonFault
maybe_of part name = asked part.place (option_map (member_at part.place name) (as_object (view part.tree)))

-- trusted, own: the value that must be there, or `Lacks place` if it is missing
abbrev pub must_be : {X : Type 0} → List ℕ → Result (Option X) JsonFault → Result X JsonFault
must_be place (Ok (Some x)) = Ok x
must_be place (Ok None) = Err (Lacks place)
must_be place (Err error) = Err error

-- trusted, own: the member `name` that `part` must have
abbrev pub member_of : Part → List ℕ → Result (Data × List ℕ) JsonFault
member_of part name = must_be (member_place part.place name) (maybe_of part name)

-- trusted, own: the number of items of `d`, or 0 if it is not an array
abbrev pub items_count : Data → ℕ
items_count d = unwrap_or (option_map items_len (as_array d)) 0

-- trusted, own: the names of `members`, in ascending order
abbrev pub names_of_members : Members → List (List ℕ)
names_of_members no_members = []
names_of_members (member name d members) = name ∷ names_of_members members

-- trusted, own: the texts of the lent `names`
abbrev pub names_lent : List (Bor (List ℕ)) → List (List ℕ)
names_lent names = map (λ name. name.now) names

-- trusted, own: holds if `names` ascend strictly by their bytes
abbrev pub AscendByBytes : List (List ℕ) → Type 0
AscendByBytes names = IsStrictlySortedBy (slice_cmp nat_cmp) names

-- trusted, own: the names of the members of `d`, if it is an object
abbrev pub names_of : Data → Option (List (List ℕ))
names_of d = option_map names_of_members (as_object d)

-- trusted, own: the names of the members of `part`, or `Kind` if it is not an object
abbrev pub names_at : Part → Result (List (List ℕ)) JsonFault
names_at part = asked part.place (names_of (view part.tree))

-- trusted, own: the error of a caller that is `error`: `memory` for `Memory`, otherwise `json error`
abbrev pub of_json : {F : Type 0} → F → (JsonFault → F) → JsonFault → F
of_json memory json Memory = memory
of_json memory json error = json error
