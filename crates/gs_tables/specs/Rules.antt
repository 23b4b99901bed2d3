-- The rules of kinds and of options. Each is a test of one row, of the rows before it, and of the application identifiers
-- that the row names. After TDT 2.0, sections 3 and 4; the rules and their order are this project's own.
use Rattle.std.specs.Prelude.{ℕ, ◌-◌, ◌%◌, Bool, true, false, not, ◌==◌, ◌&&◌, nat_le, if◌then◌else◌, List, [], ◌∷◌, length, map, filter, Option, Some, None, is_none, is_some, decimal, codes}
use Rattle.std.specs.List.{find, list_any}
use Rattle.std.specs.Option.{option_map_or}
use Rattle.std.specs.Str.{bytes_eq}
use Rattle.gs_chars.specs.Characters.{are_visible}
use Rattle.gs_ai.specs.declared.row.AiRow.{AiRow}
use Rattle.gs_ai.specs.Tables.{is_empty, is_key}
use Rattle.gs_ai.specs.Values.{has_code}
use Rattle.gs_grammar.specs.declared.item.Item.{Item}
use Rattle.gs_grammar.specs.declared.item.Item.TheVariants.{Lit, Pad, Digits as DigitsItem, Int, Esc, NumPad, Num, NumStr, Ascii7, Fill}
use Rattle.gs_grammar.specs.Items.{is_between, size_of_all}
use Rattle.gs_tables_document.specs.declared.document.Field.{Field}
use Rattle.gs_tables_document.specs.declared.document.Field.TheVariants.{Filter, Gcp, Rest, Piece, Total, Serial}
use Rattle.gs_tables.specs.declared.form.Behind.TheVariants.{Nothing, Further, Tail as BehindTail}
use Rattle.gs_tables.specs.declared.form.KeyForm.{KeyForm}
use Rattle.gs_tables.specs.declared.form.KeyForm.TheVariants.{Digits, Characters}
use Rattle.gs_tables.specs.declared.form.Room.{Room}
use Rattle.gs_tables.specs.declared.form.Room.TheVariants as room
use Rattle.gs_tables_document.specs.declared.document.KindRow.{KindRow}
use Rattle.gs_tables_document.specs.declared.document.SerialAt.{SerialAt}
use Rattle.gs_tables_document.specs.declared.document.SerialAt.TheVariants.{Nowhere, Tail, Ai}
use Rattle.gs_tables_document.specs.declared.document.LevelName.{LevelName}
use Rattle.gs_tables_document.specs.declared.document.LevelName.TheVariants.{Binary, Tag, Pure}
use Rattle.gs_tables.specs.Forms.{key_form, form_at, tail_of, characters_of, serial_at, serial_room}
use Rattle.gs_tables_document.specs.Items.{FieldItem, alone}

-- ---- kinds

-- trusted, own: holds if `kind` has the name `name`
abbrev pub has_name : List ℕ → KindRow → Bool
has_name name kind = bytes_eq name kind.name

-- trusted, own: holds if `kind` has the key `key`
abbrev pub has_key : List ℕ → KindRow → Bool
has_key key kind = bytes_eq key kind.key

-- trusted, own: holds if `name` is not empty, is visible, and differs from the `earlier` ones
abbrev pub is_new_name : List KindRow → List ℕ → Bool
is_new_name earlier name = not (is_empty name) && are_visible name && not (list_any (has_name name) earlier)

-- trusted, own: holds if `lead` is 0, or at most 1 for a key of digits
abbrev pub is_lead : KeyForm → ℕ → Bool
is_lead (Digits _ _) lead = nat_le lead 1
is_lead (Characters _) lead = lead == 0

-- trusted, own: holds if `code` is that of a row of only characters
abbrev pub is_characters : List AiRow → List ℕ → Bool
is_characters ais code = option_map_or (λ row. is_some (characters_of row.parts)) (find (has_code code) ais) false

-- trusted, own: holds if the serial is in the tail, for a key with one, and otherwise nowhere or in a qualifier with only
-- characters
abbrev pub is_serial_of : List AiRow → AiRow → KeyForm → SerialAt → Bool
is_serial_of ais row form Nowhere = is_none (tail_of form)
is_serial_of ais row form Tail = is_some (tail_of form)
is_serial_of ais row form (Ai code) = is_none (tail_of form) && list_any (bytes_eq code) row.qualifiers && is_characters ais code

-- trusted, own: holds if the names are those of the two further fields
abbrev pub are_piece_and_total : List (List ℕ) → Bool
are_piece_and_total (piece ∷ total ∷ []) = bytes_eq piece (codes "piece") && bytes_eq total (codes "total")
are_piece_and_total _ = false

-- trusted, own: holds if `fields` are the piece and the total for a key that has them, and otherwise none
abbrev pub are_fields_of : KeyForm → List (List ℕ) → Bool
are_fields_of (Digits _ (Further _ _)) fields = are_piece_and_total fields
are_fields_of (Digits _ Nothing) fields = is_empty fields
are_fields_of (Digits _ (BehindTail _)) fields = is_empty fields
are_fields_of (Characters _) fields = is_empty fields

-- trusted, own: holds if the lead digits, the serial and the further fields of `kind` fit a key of `form`
abbrev pub fits_form : List AiRow → AiRow → KindRow → KeyForm → Bool
fits_form ais row kind form =
    is_lead form kind.lead && is_serial_of ais row form (serial_at kind.serial) && are_fields_of form kind.fields

-- trusted, own: holds if `row` is a key whose form a kind can have, and `kind` fits it
abbrev pub fits_key : List AiRow → AiRow → KindRow → Bool
fits_key ais row kind = is_key row.role && option_map_or (fits_form ais row kind) (key_form row.parts) false

-- trusted, own, after TDS 2.0 section 6.3: holds if `kind` satisfies the rules of kinds, given the `earlier` ones
unfoldable pub is_kind : List AiRow → List KindRow → KindRow → Bool
is_kind ais earlier kind =
    is_new_name earlier kind.name && not (list_any (has_key kind.key) earlier)
    && option_map_or (λ row. fits_key ais row kind) (find (has_code kind.key) ais) false

-- ---- options

-- trusted, own: holds if the value of an item stands for the given field
abbrev pub is_field : Field → Option Field → Bool
is_field Filter (Some Filter) = true
is_field Gcp (Some Gcp) = true
is_field Rest (Some Rest) = true
is_field Piece (Some Piece) = true
is_field Total (Some Total) = true
is_field Serial (Some Serial) = true
is_field _ _ = false

-- trusted, own: holds if each word of the item has the empty value: a literal or a fill
abbrev pub has_no_value : Item → Bool
has_no_value (Lit _) = true
has_no_value (Fill _ _) = true
has_no_value _ = false

-- trusted, own: holds if the item has no field, though it has values other than the empty one
abbrev pub lacks_field : FieldItem → Bool
lacks_field (None, item) = not (has_no_value item)
lacks_field (Some _, item) = false

-- trusted, own: the items whose value stands for a field
abbrev pub items_of_field : Field → List FieldItem → List Item
items_of_field field items = map (λ i. i.1) (filter (λ (i : FieldItem). is_field field i.0) items)

-- trusted, own: holds if the list has exactly one item, and it passes `test`
abbrev pub is_one : (Item → Bool) → List Item → Bool
is_one test (item ∷ []) = test item
is_one test _ = false

-- trusted, own: holds if the item is exactly `n` digits
abbrev pub is_digits : ℕ → Item → Bool
is_digits n (Pad k) = k == n
is_digits n (NumPad _ k) = k == n
is_digits n _ = false

-- trusted, own: holds if the values of the item are digits and may have leading zeros
abbrev pub is_padded : Item → Bool
is_padded (Pad _) = true
is_padded (DigitsItem _ _) = true
is_padded (NumStr _ _) = true
is_padded (NumPad _ _) = true
is_padded _ = false

-- trusted, own: holds if the item is the filter value of a tag: a number up to 7, in 3 bits on a bit level
abbrev pub is_filter : Item → Bool
is_filter (Int most) = most == 7
is_filter (Num bits most) = (bits == 3) && (most == 7)
is_filter _ = false

-- trusted, own: the characters of the longest value
abbrev pub longest_of : Item → ℕ
longest_of (Lit _) = 0
longest_of (Pad n) = n
longest_of (DigitsItem _ hi) = hi
longest_of (Int most) = length (decimal most)
longest_of (Esc _ hi) = hi
longest_of (NumPad _ n) = n
longest_of (Num _ most) = length (decimal most)
longest_of (NumStr _ hi) = hi
longest_of (Ascii7 _ hi _) = hi
longest_of (Fill _ _) = 0

-- trusted, own: holds if the longest value of `item` has from 1 to `most` characters
abbrev pub has_room : ℕ → Item → Bool
has_room most item = is_between 1 most (longest_of item)

-- trusted, own: holds if the values of the item are digits
abbrev pub is_numeral : Item → Bool
is_numeral (Esc _ _) = false
is_numeral (Ascii7 _ _ _) = false
is_numeral _ = true

-- trusted, own: holds if the values of `item` are digits, and the longest has from 1 to `most`
abbrev pub is_number : ℕ → Item → Bool
is_number most item = is_numeral item && has_room most item

-- trusted, own: holds if the values of `item` are not digits that may have leading zeros, and the longest has from 1 to `most`
-- characters
abbrev pub is_free : ℕ → Item → Bool
is_free most item = not (is_padded item) && has_room most item

-- trusted, own: holds if `n` is from 1 to 12 and, for a key of digits, at most their number less `lead`
abbrev pub is_gcp : KeyForm → ℕ → ℕ → Bool
is_gcp (Digits digits _) lead n = is_between 1 12 n && nat_le n (digits - lead)
is_gcp (Characters _) lead n = is_between 1 12 n

-- trusted, own: holds if `n` is a prefix length that the key leaves room for, and `items` are one item of exactly `n` digits
unfoldable pub keeps_gcp : KeyForm → ℕ → ℕ → List Item → Bool
keeps_gcp form lead n items = is_gcp form lead n && is_one (is_digits n) items

-- trusted, own: Holds if the digits or characters of the key after a company prefix of `n` digits are in one item. They are in
-- none if no digit is left.
unfoldable pub keeps_rest : KeyForm → ℕ → List Item → Bool
keeps_rest (Digits digits _) n items = if digits - n == 0 then is_empty items else is_one (is_digits (digits - n)) items
keeps_rest (Characters most) n items = is_one (is_free (most - n)) items

-- trusted, own: holds if there is one serial item that the serial has room for, or none if the kind has no serial
unfoldable pub keeps_serial : Option Room → List Item → Bool
keeps_serial None items = is_empty items
keeps_serial (Some (room.Characters most)) items = is_one (has_room most) items
keeps_serial (Some (room.Digits most)) items = is_one (is_number most) items

-- trusted, own: holds if there is one item each of the piece and the total, with the key's numbers of digits, or none if it has
-- none
unfoldable pub keeps_further : KeyForm → List Item → List Item → Bool
keeps_further (Digits _ (Further a b)) pieces totals = is_one (is_digits a) pieces && is_one (is_digits b) totals
keeps_further (Digits _ Nothing) pieces totals = is_empty pieces && is_empty totals
keeps_further (Digits _ (BehindTail _)) pieces totals = is_empty pieces && is_empty totals
keeps_further (Characters _) pieces totals = is_empty pieces && is_empty totals

-- trusted, own: holds if an option of the level has the required name of an encoding, filter value and whole words of 16 bits
unfoldable pub keeps_level : LevelName → List ℕ → List FieldItem → Bool
keeps_level Binary encoding items = not (is_empty encoding) && is_one is_filter (items_of_field Filter items) && (size_of_all (alone items) % 16 == 0)
keeps_level Tag encoding items = not (is_empty encoding) && is_one is_filter (items_of_field Filter items)
keeps_level Pure encoding items = is_empty encoding && is_empty (items_of_field Filter items)

-- trusted, own: holds if the company prefix, the rest, the serial and the further fields fit `kind`, whose key is of `form`
unfoldable pub keeps_form : List AiRow → KindRow → ℕ → List FieldItem → KeyForm → Bool
keeps_form ais kind n items form =
    keeps_gcp form kind.lead n (items_of_field Gcp items)
    && keeps_rest form n (items_of_field Rest items)
    && (keeps_serial (serial_room ais form (serial_at kind.serial)) (items_of_field Serial items)
    && keeps_further form (items_of_field Piece items) (items_of_field Total items))

-- trusted, own, after TDT 2.0 sections 3 and 4: holds if the option, of `encoding` and prefix length `n`, fits `kind`
unfoldable pub fits_kind : List AiRow → KindRow → LevelName → List ℕ → ℕ → List FieldItem → Bool
fits_kind ais kind level encoding n items =
    are_visible encoding && keeps_level level encoding items
    && option_map_or (keeps_form ais kind n items) (form_at ais kind.key) false
