-- Definitions for proofs and private functions, in addition to Written.antt.
use Rattle.std.specs.Prelude.{◌≡◌, ℕ, true, false, List, [], length, Option, Some, None, slice_get, bytes_eq, position}
use Rattle.gs_ai.specs.declared.pair.Pair.{Pair}
use Rattle.gs_ai.specs.declared.row.AiRow.{AiRow}
use Rattle.gs_ident.specs.Elements.{Elements}
use Rattle.gs_ident.specs.Identities.{pair_with}
use Rattle.gs_grammar.specs.declared.item.Item.{Item}
use Rattle.gs_grammar.specs.Levels.{OptionForm}
use Rattle.gs_grammar.specs.WrittenWords.{why_not}
use Rattle.gs_tables_document.specs.declared.document.Field.{Field}
use Rattle.gs_tables_document.specs.declared.document.Field.TheVariants.{Serial}
use Rattle.gs_tables.specs.Rules.{is_field}
use Rattle.gs_epc.specs.KeyParts.{take_apart}
use Rattle.gs_epc.specs.Layout.{KeyFields}
use Rattle.gs_class.specs.declared.class_set.Class.{Class}
use Rattle.gs_class.specs.declared.writer.Said.{Said}
use Rattle.gs_class.specs.Sets.{ClassRows, kind_of}
use Rattle.gs_class.specs.Written.{value_for}

-- the fields of a class as the fields of a key
abbrev pub fields_in : Said → KeyFields
fields_in said = record { prefix = said.prefix; rest = said.rest; piece = []; total = []; serial = said.serial }

-- holds if every item except that of the lot holds its value
abbrev pub HoldOthers : Class → List Item → KeyFields → Type 0
HoldOthers class items said =
    (k : ℕ) (item : Item) (field : Option Field) → slice_get items k ≡ Some item → slice_get class.fields k ≡ Some field → is_field Serial field ≡ false
    → why_not item (value_for said field) ≡ None

-- holds if one item stands for the lot
abbrev pub HasOneLot : Class → Type 0
HasOneLot class = (k : ℕ) (field : Option Field) → slice_get class.fields k ≡ Some field → is_field Serial field ≡ true → position (is_field Serial) class.fields ≡ Some k

-- holds if the element of a class is a qualifier of an identity
abbrev pub IsQualified : Class → Elements → Type 0
IsQualified class identity = (pair : Pair) × (pair_with identity.qualifiers class.element ≡ Some pair)

-- holds if a class can write an identity, unless its lot has no word
pub record CanWrite (ais : List AiRow) (class : Class) (items : List Item) (identity : Elements) : Type 0 where
  pub as_many : length class.fields ≡ length items
  pub qualified : IsQualified class identity
  pub said : KeyFields
  pub apart : take_apart ais (kind_of class) identity class.gcp ≡ Some said
  pub others : HoldOthers class items said
  pub lot : HasOneLot class

-- holds if each class of the name can write the identity
abbrev pub EachCanWrite : List AiRow → ClassRows → List ℕ → Elements → Type 0
EachCanWrite ais set name identity =
    (i : ℕ) (class : Class) (option : OptionForm) → slice_get set.classes i ≡ Some class → slice_get set.level.options i ≡ Some option
    → bytes_eq name class.name ≡ true → CanWrite ais class option.items identity

-- holds if the set has as many options of texts as classes, and each class of the name can write the identity
pub record CanBeWritten (ais : List AiRow) (set : ClassRows) (name : List ℕ) (identity : Elements) : Type 0 where
  pub as_many : length set.classes ≡ length set.level.options
  pub texts : set.level.bit_level ≡ false
  pub each : EachCanWrite ais set name identity
