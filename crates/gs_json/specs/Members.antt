-- Members that an object must or may have, and their values. A member that is missing or of another kind reads as empty, 0
-- or false.
use Rattle.std.specs.Prelude.{ℕ, Bool, true, false, if◌then◌else◌, List, [], Option, None, option_map, option_and_then, unwrap_or}
use Rattle.std.specs.List.{enumerate_from, flat_map}
use Rattle.std.specs.Str.{is_utf8}
use Rattle.serde_json.specs.Data.{Data}
use Rattle.serde_json.specs.Find.{as_array, as_bool, as_number, as_object, as_str, as_u64, get}
use Rattle.serde_json.specs.Read.{read as read_text}
use Rattle.gs_json.specs.Places.{item_place, member_place}
use Rattle.gs_json.specs.Shapes.{items_list, members_errors}
use Rattle.gs_json.specs.declared.error.JsonFault.{JsonFault}
use Rattle.gs_json.specs.declared.plan.Entry.{Entry}
use Rattle.gs_json.specs.declared.plan.Sort.{Sort}

-- trusted, RFC 8259: the document of `bytes`, if they are one
unfoldable pub document_of : List ℕ → Option Data
document_of bytes = if is_utf8 bytes then read_text bytes else None

-- trusted, own: the entry of a member that an object must have
abbrev pub must : List ℕ → Sort → Entry
must name sort = record { name = name; required = true; sort = sort }

-- trusted, own: the entry of a member that an object may have
abbrev pub may : List ℕ → Sort → Entry
may name sort = record { name = name; required = false; sort = sort }

-- trusted, RFC 8259, 5: the items of `d`, if it is an array
abbrev pub array_in : Data → Option (List Data)
array_in d = option_map items_list (as_array d)

-- trusted, RFC 8259, 5: the items of `d`, or none if it is not an array
abbrev pub items_of : Data → List Data
items_of d = unwrap_or (array_in d) []

-- trusted, RFC 8259, 4: the items of the array at the member `name`, or none if there is no such array
abbrev pub items_in : List ℕ → Data → List Data
items_in name d = unwrap_or (option_and_then array_in (get name d)) []

-- trusted, RFC 8259, 4: the text of the member `name`, or the empty text if there is none
abbrev pub text_in : List ℕ → Data → List ℕ
text_in name d = unwrap_or (option_and_then as_str (get name d)) []

-- trusted, RFC 8259, 4: the number of the member `name`, or 0 if there is none
abbrev pub number_in : List ℕ → Data → ℕ
number_in name d = unwrap_or (option_and_then as_u64 (option_and_then as_number (get name d))) 0

-- trusted, RFC 8259, 4: holds if `d` has a member `name` with the value `true`
abbrev pub truth_in : List ℕ → Data → Bool
truth_in name d = unwrap_or (option_and_then as_bool (get name d)) false

-- trusted, own: the errors of the items of the array at the member `name` of `d`, which is at `place`: item by item, those of
-- an object by `plan`
abbrev pub array_errors : List ℕ → List ℕ → List Entry → Data → List JsonFault
array_errors place name plan d =
    flat_map (λ row. members_errors (item_place (member_place place name) row.0) plan (as_object row.1)) (enumerate_from 0 (items_in name d))
