-- The EPC by the texts of its fields.
use Rattle.std.specs.Prelude.{ℕ, ◌-◌, List, [], ◌∷◌, Option, Some, None}
use Rattle.gs_tables_document.specs.declared.document.Field.{Field}
use Rattle.gs_tables_document.specs.declared.document.Field.TheVariants.{Gcp, Rest, Piece, Total, Serial}
use Rattle.gs_tables_document.specs.declared.document.OptInfo.{OptInfo}
use Rattle.gs_epc.specs.declared.epc.Epc.{Epc}
use Rattle.gs_epc.specs.Epcs.{value_of}
use Rattle.gs_epc.specs.Layout.{KeyFields}

-- the number of the first digit
abbrev pub filter_number : List ℕ → Option ℕ
filter_number (digit ∷ _) = Some (digit - 48)
filter_number [] = None

-- the EPC of an option by its filter value and the fields of its key
abbrev pub epc_with : OptInfo → Option ℕ → KeyFields → Epc
epc_with info filter fields = record {
  kind = info.kind;
  encoding = info.encoding;
  filter = filter;
  gcp = info.gcp;
  prefix = fields.prefix;
  rest = fields.rest;
  piece = fields.piece;
  total = fields.total;
  serial = fields.serial;
}

-- the fields of a key by the values of items
abbrev pub key_fields : List (Option Field) → List (List ℕ) → KeyFields
key_fields fields values = record {
  prefix = value_of Gcp fields values;
  rest = value_of Rest fields values;
  piece = value_of Piece fields values;
  total = value_of Total fields values;
  serial = value_of Serial fields values;
}
