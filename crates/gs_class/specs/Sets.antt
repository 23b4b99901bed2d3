-- Sets of classes: the view that contracts have of them, and the rows that they are made of.
use Rattle.std.specs.Prelude.{◌≡◌, false, List, [], map}
use Rattle.gs_ai.specs.declared.row.AiRow.{AiRow}
use Rattle.gs_grammar.specs.Ambiguity.{IsUnambiguous}
use Rattle.gs_grammar.specs.Levels.{LevelForm, OptionForm, item_lists}
use Rattle.gs_tables_document.specs.declared.document.Kind.{Kind}
use Rattle.gs_tables_document.specs.declared.document.SerialAt.TheVariants.{Ai}
use Rattle.gs_tables_document.specs.Items.{alone, fields_of, present}
use Rattle.gs_class.specs.declared.class_set.Class.{Class}
use Rattle.gs_class.specs.declared.document.ClassRow.{ClassRow}
use Rattle.gs_class.specs.Rules.{class_rejections}

-- trusted, own: a set of classes: the level of their texts, and the facts of each of its options
pub record ClassRows : Type 0 where
  pub level : LevelForm
  pub classes : List Class

-- trusted, own: the facts of the option of a row
abbrev pub class_of : ClassRow → Class
class_of row = record {
  name = row.name;
  key = row.key;
  lead = row.lead;
  element = row.element;
  gcp = row.gcp;
  fields = fields_of (present row.items);
}

-- trusted, TDS 2.0, 'EPC Class URIs': the kind of EPC that a class is: its serial is the lot
abbrev pub kind_of : Class → Kind
kind_of class = record { name = class.name; key = class.key; lead = class.lead; serial = Ai class.element; further = [] }

-- trusted, own: the option of a row
abbrev pub option_of : ClassRow → OptionForm
option_of row = record { bit_level = false; items = alone (present row.items) }

-- trusted, own: the set of the rows, in their order
abbrev pub set_of : List ClassRow → ClassRows
set_of rows = record { level = record { bit_level = false; options = map option_of rows }; classes = map class_of rows }

-- trusted, own: Holds if `set` is made for the table: it is the set of rows that no rule rejects, given the rows `ais`.
pub record IsOfTable (ais : List AiRow) (set : ClassRows) : Type 0 where
  pub rows : List ClassRow
  pub in_order : class_rejections ais rows ≡ []
  pub made : set ≡ set_of rows

-- trusted, own: holds if no text has two different derivations in `set`
abbrev pub IsClear : ClassRows → Type 0
IsClear set = IsUnambiguous (item_lists set.level.options)
