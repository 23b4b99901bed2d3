-- The rules of classes. Each is a test of one row, of the rows before it, and of the application identifiers that the row names.
-- GS1 General Specifications, sections 3.2 (keys of digits with a check digit) and 3.4 (a lot); the rules and their order are own.
use Rattle.std.specs.Prelude.{ℕ, ◌-◌, ◌==◌, ◌&&◌, ◌||◌, nat_le, nat_lt, Bool, true, false, not, if◌then◌else◌, List, [], ◌∷◌, ◌++◌, length, take, position, Option, Some, None, option_map, option_and_then, option_to_list, bytes_eq}
use Rattle.std.specs.List.{flat_map, list_all, list_any, enumerate_from, find}
use Rattle.std.specs.Option.{option_map_or}
use Rattle.gs_chars.specs.Answers.{error_if}
use Rattle.gs_chars.specs.Characters.{are_visible}
use Rattle.gs_ai.specs.declared.part.Part.{Part}
use Rattle.gs_ai.specs.declared.part.Part.TheVariants.{NumCheck}
use Rattle.gs_ai.specs.declared.row.AiRow.{AiRow}
use Rattle.gs_ai.specs.Tables.{is_empty, is_key}
use Rattle.gs_ai.specs.Values.{has_code}
use Rattle.gs_grammar.specs.declared.item.Item.TheVariants.{Lit}
use Rattle.gs_grammar.specs.Items.{is_bad, size_of_all}
use Rattle.gs_grammar.specs.Limits.{most_symbols}
use Rattle.gs_tables_document.specs.declared.document.Field.TheVariants.{Gcp, Rest, Serial}
use Rattle.gs_tables_document.specs.Items.{FieldItem, alone, present}
use Rattle.gs_tables_document.specs.Limits.{most_items}
use Rattle.gs_tables.specs.declared.form.Behind.TheVariants.{Nothing}
use Rattle.gs_tables.specs.declared.form.KeyForm.TheVariants.{Digits}
use Rattle.gs_tables.specs.declared.form.Room.TheVariants.{Characters}
use Rattle.gs_tables.specs.Forms.{characters_of}
use Rattle.gs_tables.specs.Rules.{items_of_field, keeps_gcp, keeps_rest, keeps_serial}
use Rattle.gs_class.specs.declared.error.ClassLoadFault.{ClassLoadFault}
use Rattle.gs_class.specs.declared.error.ClassLoadFault.TheVariants.{Limit, BadItem, Size, Mismatch, Duplicate}
use Rattle.gs_class.specs.declared.document.ClassRow.{ClassRow}

-- ---- the items of a row

-- trusted, own: holds if the item of a class is a literal, or stands for the company prefix, the rest or the lot
abbrev pub is_class_item : FieldItem → Bool
is_class_item (None, Lit _) = true
is_class_item (Some Gcp, _) = true
is_class_item (Some Rest, _) = true
is_class_item (Some Serial, _) = true
is_class_item (_, _) = false

-- trusted, own: holds if the item is absent, breaks a bound of texts, or is not an item of a class
abbrev pub is_bad_item : Option FieldItem → Bool
is_bad_item None = true
is_bad_item (Some item) = is_bad false item.1 || not (is_class_item item)

-- ---- the key and the element

-- trusted, GS1 General Specifications, section 3.2: the number of digits of a key before its check digit, if it has no other part
abbrev pub digits_alone : List Part → Option ℕ
digits_alone (NumCheck k ∷ []) = Some (k - 1)
digits_alone _ = None

-- trusted, own: the most characters of an element that is only characters and has no text that means none
abbrev pub element_room : List AiRow → List ℕ → Option ℕ
element_room ais element =
    option_and_then (λ (row : AiRow). if is_empty row.none then characters_of row.parts else None) (find (has_code element) ais)

-- trusted, own: holds if the company prefix, the rest and the lot fit a key of `digits` digits and an element of at most `most`
-- characters
unfoldable pub keeps_items : ClassRow → ℕ → ℕ → Bool
keeps_items row digits most =
    keeps_gcp (Digits digits Nothing) row.lead row.gcp (items_of_field Gcp (present row.items))
    && keeps_rest (Digits digits Nothing) row.gcp (items_of_field Rest (present row.items))
    && keeps_serial (Some (Characters most)) (items_of_field Serial (present row.items))

-- trusted, own: holds if the `parts` of the key are only digits, and the items of `row` fit it and the element
abbrev pub fits_parts : List AiRow → ClassRow → List Part → Bool
fits_parts ais row parts =
    option_map_or (λ digits. option_map_or (λ most. keeps_items row digits most) (element_room ais row.element) false) (digits_alone parts) false

-- trusted, own: holds if `key` is a key's row that lists the element of `row`, at most one digit precedes the company prefix,
-- and the items fit
unfoldable pub fits_key : List AiRow → ClassRow → AiRow → Bool
fits_key ais row key =
    is_key key.role && nat_le row.lead 1 && list_any (bytes_eq row.element) key.qualifiers && fits_parts ais row key.parts

-- ---- the rows before a row

-- trusted, own: holds if the rows have the same key and the same element
abbrev pub is_same_pair : ClassRow → ClassRow → Bool
is_same_pair row other = bytes_eq row.key other.key && bytes_eq row.element other.element

-- trusted, own: holds if rows of the same name have the same key, lead and element, and rows of different names differ in key
-- or element
unfoldable pub agrees : ClassRow → ClassRow → Bool
agrees row other =
    if bytes_eq row.name other.name then is_same_pair row other && (row.lead == other.lead) else not (is_same_pair row other)

-- trusted, own: holds if the rows have the same name and the same company prefix length
unfoldable pub is_same_row : ClassRow → ClassRow → Bool
is_same_row row other = bytes_eq row.name other.name && (row.gcp == other.gcp)

-- trusted, own: holds if `row` satisfies the rules of classes, given the `earlier` ones
unfoldable pub is_class : List AiRow → List ClassRow → ClassRow → Bool
is_class ais earlier row =
    not (is_empty row.name) && are_visible row.name && list_all (agrees row) earlier
    && option_map_or (fits_key ais row) (find (has_code row.key) ais) false

-- ---- rejections

-- trusted, own: holds if one of the classes has more items than the limit
abbrev pub has_long : List ClassRow → Bool
has_long rows = list_any (λ (row : ClassRow). nat_lt most_items (length row.items)) rows

-- trusted, own: holds if there are more classes, or more items of a class, than the limit
abbrev pub are_many : List ClassRow → Bool
are_many rows = nat_lt 256 (length rows) || has_long rows

-- trusted, own: the rejections of row i, in their order: its first bad item, its size, a rule, and the first earlier row that
-- is the same
unfoldable pub row_rejections : List AiRow → List ClassRow → ℕ × ClassRow → List ClassLoadFault
row_rejections ais rows place =
    option_to_list (option_map (λ k. BadItem place.0 k) (position is_bad_item place.1.items))
    ++ error_if (nat_lt most_symbols (size_of_all (alone (present place.1.items)))) (Size place.0)
    ++ error_if (not (is_class ais (take place.0 rows) place.1)) (Mismatch place.0)
    ++ option_to_list (option_map (λ j. Duplicate j place.0) (position (is_same_row place.1) (take place.0 rows)))

-- trusted, own: the list of all rejections of `rows`, in the order in which they are reported: the limits, then row by row
unfoldable pub class_rejections : List AiRow → List ClassRow → List ClassLoadFault
class_rejections ais rows = error_if (are_many rows) Limit ++ flat_map (row_rejections ais rows) (enumerate_from 0 rows)
