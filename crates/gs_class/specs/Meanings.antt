-- The meaning of a class URI (TDS 2.0, 'EPC Class URIs'). It follows from derivations (TDT 2.0, section 3) and the key layout
-- (TDS 2.0, section 7).
use Rattle.std.specs.Prelude.{◌≡◌, ℕ, List, [], Some, slice_get, Result, Ok, Err}
use Rattle.gs_ai.specs.declared.row.AiRow.{AiRow}
use Rattle.gs_ident.specs.Elements.{Elements}
use Rattle.gs_grammar.specs.Derivations.{Derivation}
use Rattle.gs_grammar.specs.Levels.{item_lists}
use Rattle.gs_tables_document.specs.declared.document.Field.TheVariants.{Gcp, Rest, Serial}
use Rattle.gs_epc.specs.Epcs.{value_of}
use Rattle.gs_epc.specs.Layout.{KeyFields, lay}
use Rattle.gs_class.specs.declared.class_set.Class.{Class}
use Rattle.gs_class.specs.declared.error.ClassFault.{ClassFault}
use Rattle.gs_class.specs.declared.error.ClassFault.TheVariants.{NoReading, Memory}
use Rattle.gs_class.specs.Sets.{ClassRows, kind_of}

-- trusted, TDS 2.0, 'EPC Class URIs': the fields in the values of the items of a class: the company prefix, the rest and the
-- lot
abbrev pub said_by : Class → List (List ℕ) → KeyFields
said_by class values = record {
  prefix = value_of Gcp class.fields values;
  rest = value_of Rest class.fields values;
  piece = [];
  total = [];
  serial = value_of Serial class.fields values;
}

-- trusted, TDS 2.0, 'EPC Class URIs': holds if `text` has a derivation by a class of `set`, and the fields in its values are
-- laid out as `identity`
pub record IsClass (ais : List AiRow) (set : ClassRows) (text : List ℕ) (identity : Elements) : Type 0 where
  pub derivation : Derivation (item_lists set.level.options) text
  pub class : Class
  pub named : slice_get set.classes derivation.option ≡ Some class
  pub is : identity ≡ lay ais (kind_of class) (said_by class derivation.values)

-- trusted, TDS 2.0, 'EPC Class URIs': Holds if the result is the identity that `text` is a class URI of, or that there is none.
-- `Memory` may be returned instead.
abbrev pub ReadsAs : List AiRow → ClassRows → List ℕ → Result Elements ClassFault → Type 0
ReadsAs ais set text (Ok identity) = IsClass ais set text identity
ReadsAs ais set text (Err NoReading) = (identity : Elements) → IsClass ais set text identity → ⊥
ReadsAs ais set text (Err Memory) = Unit {0}
