-- The class URI that is written of an identity: TDS 2.0, 'EPC Class URIs'. The choice of the class and of the named rejection is
-- this project's own.
use Rattle.std.specs.Prelude.{ℕ, ◌==◌, ◌&&◌, not, Bool, if◌then◌else◌, List, [], ◌++◌, drop, map, position, Option, Some, option_and_then, is_some, slice_get, Result, Ok, Err, bytes_eq}
use Rattle.std.specs.List.{find, list_any}
use Rattle.std.specs.Option.{option_map_or, option_or}
use Rattle.gs_ai.specs.declared.pair.Pair.{Pair}
use Rattle.gs_ai.specs.declared.row.AiRow.{AiRow}
use Rattle.gs_ident.specs.Elements.{Elements}
use Rattle.gs_ident.specs.Identities.{pair_with}
use Rattle.gs_grammar.specs.declared.error.Why.{Why}
use Rattle.gs_grammar.specs.declared.item.Item.{Item}
use Rattle.gs_grammar.specs.Levels.{item_lists}
use Rattle.gs_grammar.specs.WrittenWords.{why_not, written}
use Rattle.gs_prefix.specs.declared.entry.PrefixEntry.{PrefixEntry}
use Rattle.gs_prefix.specs.Lengths.{prefix_length}
use Rattle.gs_tables_document.specs.declared.document.Field.{Field}
use Rattle.gs_tables_document.specs.declared.document.Field.TheVariants.{Gcp, Rest, Serial}
use Rattle.gs_tables.specs.Rules.{is_field}
use Rattle.gs_epc.specs.KeyParts.{take_apart}
use Rattle.gs_epc.specs.Layout.{KeyFields}
use Rattle.gs_class.specs.declared.class_set.Class.{Class}
use Rattle.gs_class.specs.declared.error.ClassWriteFault.{ClassWriteFault}
use Rattle.gs_class.specs.declared.error.ClassWriteFault.TheVariants.{NoClass, MissingElement, Extra, MissingGcp, NoOption, CannotHold}
use Rattle.gs_class.specs.Sets.{ClassRows, kind_of}

-- ---- the class that names an identity

-- trusted, own: the pairs of an identity other than its key
abbrev pub others_of : Elements → List Pair
others_of identity = identity.qualifiers ++ identity.attributes

-- trusted, own: holds if `class` has the key of `identity`
abbrev pub has_key : Elements → Class → Bool
has_key identity class = bytes_eq class.key identity.key.code

-- trusted, own: holds if `class` has the key of `identity`, and its element is another pair of it
abbrev pub is_named_by : Elements → Class → Bool
is_named_by identity class = has_key identity class && is_some (pair_with (others_of identity) class.element)

-- trusted, own: holds if `pair` is neither that of the key nor that of the element of `class`
abbrev pub is_extra : Class → Pair → Bool
is_extra class pair = not (bytes_eq class.key pair.code) && not (bytes_eq class.element pair.code)

-- ---- the values that the items of a class hold

-- trusted, own: the value that an item holds, by its field
abbrev pub value_for : KeyFields → Option Field → List ℕ
value_for said (Some Gcp) = said.prefix
value_for said (Some Rest) = said.rest
value_for said (Some Serial) = said.serial
value_for said _ = []

-- trusted, own: the value of each item
abbrev pub values_for : KeyFields → List (Option Field) → List (List ℕ)
values_for said fields = map (value_for said) fields

-- trusted, own: the reason, if any, why the item of the lot has no word for `lot`, if there is such an item
abbrev pub why_not_lot : List (Option Field) → List Item → List ℕ → Option Why
why_not_lot fields items lot =
    option_and_then (λ k. option_and_then (λ item. why_not item lot) (slice_get items k)) (position (is_field Serial) fields)

-- ---- the answer

-- trusted, own: the answer of the class that writes these fields, by its items
abbrev pub by_fields : Class → List Item → KeyFields → Result (List ℕ) ClassWriteFault
by_fields class items said =
    option_map_or (λ why. Err (CannotHold why)) (why_not_lot class.fields items said.serial)
    (Ok (written items (values_for said class.fields)))

-- trusted, TDS 2.0, section 7: the answer of the class that writes, by its items: it takes the identity apart by its kind and
-- its company prefix length
abbrev pub by_items : List AiRow → Class → Elements → List Item → Result (List ℕ) ClassWriteFault
by_items ais class identity items =
    option_map_or (by_fields class items) (take_apart ais (kind_of class) identity class.gcp) (Err MissingElement)

-- trusted, own: the items of option i of a set
abbrev pub items_at : ClassRows → ℕ → List Item
items_at set i = option_map_or (λ items. items) (slice_get (item_lists set.level.options) i) []

-- trusted, own: the answer of class i of a set
abbrev pub by_class : List AiRow → ClassRows → Elements → ℕ → Result (List ℕ) ClassWriteFault
by_class ais set identity i =
    option_map_or (λ class. by_items ais class identity (items_at set i)) (slice_get set.classes i) (Err NoOption)

-- trusted, own: holds if `class` has the name `name` and a company prefix of `n` digits
abbrev pub is_sized : List ℕ → ℕ → Class → Bool
is_sized name n class = bytes_eq name class.name && (class.gcp == n)

-- trusted, own: the answer by the length of the company prefix: the first class of the name that has it writes
unfoldable pub by_length : List AiRow → ClassRows → Elements → Class → ℕ → Result (List ℕ) ClassWriteFault
by_length ais set identity class n =
    option_map_or (by_class ais set identity) (position (is_sized class.name n) set.classes) (Err NoOption)

-- trusted, GS1 General Specifications, section 1.4.4: the length of the company prefix: the given one, or that of the list by the
-- digits after the lead digits
unfoldable pub length_for : List PrefixEntry → Option ℕ → Class → Elements → Option ℕ
length_for prefixes gcp class identity = option_or gcp (prefix_length prefixes (drop class.lead identity.key.value))

-- trusted, own: The result by the class that names the identity. It is an error if the identity has a pair other than the key
-- and the element, or no company prefix length.
unfoldable pub by_name : List AiRow → ClassRows → List PrefixEntry → Option ℕ → Elements → Class → Result (List ℕ) ClassWriteFault
by_name ais set prefixes gcp identity class =
    option_map_or (λ (pair : Pair). Err (Extra pair.code))
    (find (is_extra class) (others_of identity))
    (option_map_or (by_length ais set identity class) (length_for prefixes gcp class identity) (Err MissingGcp))

-- trusted, TDS 2.0, 'EPC Class URIs'; the order of the rejections is own: The result of `write_class`. Some class has the key.
-- The first that has it, and whose element is a pair of the identity, names the identity and decides the rest.
unfoldable pub class_answer : List AiRow → ClassRows → List PrefixEntry → Option ℕ → Elements → Result (List ℕ) ClassWriteFault
class_answer ais set prefixes gcp identity =
    if list_any (has_key identity) set.classes
    then option_map_or (by_name ais set prefixes gcp identity) (find (is_named_by identity) set.classes) (Err MissingElement)
    else Err NoClass
