-- The items of an option as a table document writes them: an array that begins with the item's name. This project's own.
use Rattle.std.specs.Prelude.{ℕ, ◌==◌, ◌&&◌, ◌^◌, nat_lt, Bool, true, false, if◌then◌else◌, List, map, codes, Option, Some, None, option_map, option_and_then, option_to_list, Result, Ok, Err, ◌≡◌, ◌-◌}
use Rattle.std.specs.List.{flat_map}
use Rattle.std.specs.Str.{bytes_eq}
use Rattle.serde_json.specs.Data.{Data}
use Rattle.serde_json.specs.Find.{as_number, as_str, as_u64, at}
use Rattle.gs_json.specs.Answers.{items_count}
use Rattle.gs_bits.specs.Digits.{are_bit_digits}
use Rattle.gs_grammar.specs.declared.item.Item.{Item}
use Rattle.gs_grammar.specs.declared.item.Item.TheVariants.{Lit, Pad, Digits, Int, Esc, NumPad, Num, NumStr, Ascii7, Fill}
use Rattle.gs_tables_document.specs.declared.document.Field.{Field}
use Rattle.gs_tables_document.specs.declared.document.Field.TheVariants.{Filter, Gcp, Rest, Piece, Total, Serial}
use Rattle.gs_tables_document.specs.declared.error.ItemFault.{ItemFault}
use Rattle.gs_tables_document.specs.declared.error.ItemFault.TheVariants.{Bad, Memory}

-- ---- the parts of an item

-- trusted, own: the field of a name
abbrev pub field_of : List ℕ → Option Field
field_of name =
    if bytes_eq name (codes "filter") then Some Filter
    else if bytes_eq name (codes "gcp") then Some Gcp
    else if bytes_eq name (codes "rest") then Some Rest
    else if bytes_eq name (codes "serial") then Some Serial
    else if bytes_eq name (codes "piece") then Some Piece
    else if bytes_eq name (codes "total") then Some Total
    else None

-- trusted, own: the number `n` if it fits in `bits` bits, otherwise nothing
abbrev pub held : ℕ → ℕ → Option ℕ
held bits n = if nat_lt n (2 ^ bits) then Some n else None

-- trusted, own: the bits of a text of the digits 0 and 1
abbrev pub bits_of : List ℕ → Option (List ℕ)
bits_of text = if are_bit_digits text then Some (map (λ c. c - 48) text) else None

-- trusted, own: the text at a place of an array
abbrev pub text_arg : ℕ → Data → Option (List ℕ)
text_arg i d = option_and_then as_str (at i d)

-- trusted, own: the number at a place of an array
abbrev pub number_arg : ℕ → Data → Option ℕ
number_arg i d = option_and_then as_u64 (option_and_then as_number (at i d))

-- trusted, own: the field at a place of an array
abbrev pub field_arg : ℕ → Data → Option Field
field_arg i d = option_and_then field_of (text_arg i d)

-- trusted, own: the number at a place of an array, below 2^8
abbrev pub byte_arg : ℕ → Data → Option ℕ
byte_arg i d = option_and_then (held 8) (number_arg i d)

-- trusted, own: the number at a place of an array, below 2^16
abbrev pub short_arg : ℕ → Data → Option ℕ
short_arg i d = option_and_then (held 16) (number_arg i d)

-- ---- the items

-- trusted, own: an item, and the field that its value stands for
abbrev pub FieldItem : Type 0
FieldItem = Option Field × Item

-- trusted, own: the items that are not absent
abbrev pub present : List (Option FieldItem) → List FieldItem
present entries = flat_map option_to_list entries

-- trusted, own: the items without their fields
abbrev pub alone : List FieldItem → List Item
alone items = map (λ (i : FieldItem). i.1) items

-- trusted, own: the fields of the items
abbrev pub fields_of : List FieldItem → List (Option Field)
fields_of items = map (λ (i : FieldItem). i.0) items

-- trusted, own: the `answer` for an array `d` of `n` parts, otherwise nothing
abbrev pub sized : ℕ → Data → Option FieldItem → Option FieldItem
sized n d answer = if items_count d == n then answer else None

-- trusted, own: the item with the field that its second part names
abbrev pub with_field : Data → Option Item → Option FieldItem
with_field d item = option_and_then (λ field. option_map (λ i. (Some field, i)) item) (field_arg 1 d)

-- trusted, own: the item without a field
abbrev pub no_field : Option Item → Option FieldItem
no_field item = option_map (λ i. (None, i)) item

-- trusted, own: the item of two numbers, if both exist
abbrev pub both : Option ℕ → Option ℕ → (ℕ → ℕ → Item) → Option Item
both a b make = option_and_then (λ x. option_map (λ y. make x y) b) a

-- trusted, own: the items of a text level by their names: an array of the name, a field if the item has values, and its numbers
abbrev pub text_item : List ℕ → Data → Option FieldItem
text_item name d =
    if bytes_eq name (codes "lit") then sized 2 d (no_field (option_map Lit (text_arg 1 d)))
    else if bytes_eq name (codes "pad") then sized 3 d (with_field d (option_map Pad (byte_arg 2 d)))
    else if bytes_eq name (codes "int") then sized 3 d (with_field d (option_map Int (number_arg 2 d)))
    else if bytes_eq name (codes "esc") then sized 4 d (with_field d (both (byte_arg 2 d) (byte_arg 3 d) Esc))
    else if bytes_eq name (codes "digits") then sized 4 d (with_field d (both (byte_arg 2 d) (byte_arg 3 d) Digits))
    else None

-- trusted, own: the items of a bit level by their names
abbrev pub bit_item : List ℕ → Data → Option FieldItem
bit_item name d =
    if bytes_eq name (codes "lit") then sized 2 d (no_field (option_map Lit (option_and_then bits_of (text_arg 1 d))))
    else if bytes_eq name (codes "numpad") then sized 4 d (with_field d (both (byte_arg 2 d) (byte_arg 3 d) NumPad))
    else if bytes_eq name (codes "num") then sized 4 d (with_field d (both (byte_arg 2 d) (number_arg 3 d) Num))
    else if bytes_eq name (codes "ascii7") then sized 5 d (with_field d
    (option_and_then (λ bits. both (byte_arg 2 d) (byte_arg 3 d) (λ lo hi. Ascii7 lo hi bits)) (short_arg 4 d)))
    else if bytes_eq name (codes "fill") then sized 3 d (no_field (both (byte_arg 1 d) (byte_arg 2 d) Fill))
    else if bytes_eq name (codes "numstr") then sized 4 d (with_field d (both (byte_arg 2 d) (byte_arg 3 d) NumStr))
    else None

-- trusted, own: the item of a bit level or of a text level that the array is, and its field
abbrev pub item_of : Bool → Data → Option FieldItem
item_of true d = option_and_then (λ name. bit_item name d) (text_arg 0 d)
item_of false d = option_and_then (λ name. text_item name d) (text_arg 0 d)

-- trusted, own: holds if the item is one of version 1 of the profile
abbrev pub is_first_item : Item → Bool
is_first_item (Digits _ _) = false
is_first_item (NumStr _ _) = false
is_first_item _ = true

-- trusted, own: holds if the field is one of version 1 of the profile
abbrev pub is_first_field : Option Field → Bool
is_first_field (Some Piece) = false
is_first_field (Some Total) = false
is_first_field _ = true

-- trusted, own: the reading of an item in a document of version 2, or in one of another version: it has only items of version 1
abbrev pub item_in : Bool → Option FieldItem → Option FieldItem
item_in true answer = answer
item_in false answer =
    option_and_then (λ (i : FieldItem). if is_first_field i.0 && is_first_item i.1 then Some i else None) answer

-- trusted, own: holds if the result is the value of `answer`, is `Bad` and there is none, or is `Memory`
abbrev pub Reads : {X : Type 0} → Result X ItemFault → Option X → Type 0
Reads (Ok x) answer = answer ≡ Some x
Reads (Err Bad) answer = answer ≡ None
Reads (Err Memory) answer = Unit {0}
