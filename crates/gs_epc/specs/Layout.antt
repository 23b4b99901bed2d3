-- How a key is laid out: TDS 2.0, section 7 (correspondence between EPCs and GS1 keys).
use Rattle.std.specs.Prelude.{◌≡◌, ◌≤◌, ℕ, if◌then◌else◌, List, [], ◌∷◌, ◌++◌, IsTrue, codes, length, take, drop, Some, slice_get}
use Rattle.std.specs.List.{find}
use Rattle.std.specs.Option.{option_map_or}
use Rattle.gs_chars.specs.Characters.{are_digits}
use Rattle.gs_chars.specs.CheckDigits.{check_digit_of}
use Rattle.gs_ai.specs.declared.pair.Pair.{Pair}
use Rattle.gs_ai.specs.declared.part.Part.{Part}
use Rattle.gs_ai.specs.declared.part.Part.TheVariants.{Zero, Set}
use Rattle.gs_ai.specs.declared.row.AiRow.{AiRow}
use Rattle.gs_ai.specs.Values.{has_code}
use Rattle.gs_ident.specs.Elements.{Elements}
use Rattle.gs_ident.specs.Identities.{stands_for_none}
use Rattle.gs_tables_document.specs.declared.document.Kind.{Kind}
use Rattle.gs_tables_document.specs.declared.document.SerialAt.{SerialAt}
use Rattle.gs_tables_document.specs.declared.document.SerialAt.TheVariants.{Nowhere, Tail, Ai}
use Rattle.gs_tables.specs.Tables.{TableRows}
use Rattle.gs_epc.specs.declared.epc.Epc.{Epc}

-- trusted, own: The fields of a key by its kind: the company prefix, the rest, the piece and the total, and the serial. Piece
-- and total are empty if the kind has none.
pub record KeyFields : Type 0 where
  pub prefix : List ℕ
  pub rest : List ℕ
  pub piece : List ℕ
  pub total : List ℕ
  pub serial : List ℕ

-- trusted, own: the fields of an EPC's key
abbrev pub fields_in : Epc → KeyFields
fields_in epc = record {
  prefix = epc.prefix;
  rest = epc.rest;
  piece = epc.piece;
  total = epc.total;
  serial = epc.serial;
}

-- trusted, own: the parts of the key of a code
abbrev pub parts_at : List AiRow → List ℕ → List Part
parts_at ais code = option_map_or (λ (row : AiRow). row.parts) (find (has_code code) ais) []

-- trusted, own: the leading zero of the key, if its parts begin with one
abbrev pub zero_in_front : List Part → List ℕ
zero_in_front (Zero ∷ _) = codes "0"
zero_in_front _ = []

-- trusted, own: The digits of the key without its check digit. They are the indicator digit of a GTIN or the extension digit of
-- an SSCC, the company prefix, and the other digits of the reference.
abbrev pub key_digits : ℕ → List ℕ → List ℕ → List ℕ
key_digits lead prefix rest = take lead rest ++ prefix ++ drop lead rest

-- trusted, own: the digits and their check digit
abbrev pub with_check : List ℕ → List ℕ
with_check digits = digits ++ check_digit_of digits ∷ []

-- trusted, own: holds if the digits of a key are 1 to 18, and the `lead` digits are in `rest`
pub record AreKeyDigits (lead : ℕ) (prefix rest : List ℕ) : Type 0 where
  pub lead_within : lead ≤ length rest
  pub least : 1 ≤ length (key_digits lead prefix rest)
  pub most : length (key_digits lead prefix rest) ≤ 18
  pub digits : IsTrue (are_digits (key_digits lead prefix rest))

-- trusted, own: the serial after the key, if it is in the key's own value
abbrev pub tail_of_key : SerialAt → List ℕ → List ℕ
tail_of_key Tail serial = serial
tail_of_key Nowhere serial = []
tail_of_key (Ai code) serial = []

-- trusted, own: the rest after the check digit: the piece and the total, and the serial if it is the tail
abbrev pub behind_check : Kind → KeyFields → List ℕ
behind_check kind fields = fields.piece ++ (fields.total ++ tail_of_key kind.serial fields.serial)

-- trusted, TDS 2.0, section 7; GS1 General Specifications, section 3: the value of the key: its characters, or its digits with a
-- leading zero, the check digit and the rest after it
abbrev pub key_value : List Part → Kind → KeyFields → List ℕ
key_value (Set _ ∷ []) kind fields = fields.prefix ++ fields.rest
key_value parts kind fields =
    zero_in_front parts ++ with_check (key_digits kind.lead fields.prefix fields.rest) ++ behind_check kind fields

-- trusted, own: the pair of the key
abbrev pub key_pair : List AiRow → Kind → KeyFields → Pair
key_pair ais kind fields = record { code = kind.key; value = key_value (parts_at ais kind.key) kind fields }

-- trusted, own: the element of a serial, which is absent if the serial is the text that means none
abbrev pub unless_none : List AiRow → Pair → List Pair
unless_none ais pair = if stands_for_none ais pair then [] else pair ∷ []

-- trusted, own: the element of a serial; none if it is in the tail of the key, or the kind has none
abbrev pub serial_elements : List AiRow → SerialAt → List ℕ → List Pair
serial_elements ais (Ai code) serial = unless_none ais (record { code = code; value = serial })
serial_elements ais Tail serial = []
serial_elements ais Nowhere serial = []

-- trusted, TDS 2.0, section 7: the identity of the key of a kind, with its serial
abbrev pub lay : List AiRow → Kind → KeyFields → Elements
lay ais kind fields = record {
  key = key_pair ais kind fields;
  qualifiers = serial_elements ais kind.serial fields.serial;
  attributes = [];
}

-- trusted, TDS 2.0, section 7: holds if `identity` is the layout of the fields of `epc`, by the kind that it names
pub record IsLaidOut (set : TableRows) (epc : Epc) (identity : Elements) : Type 0 where
  pub kind : Kind
  pub named : slice_get set.kinds epc.kind ≡ Some kind
  pub laid : identity ≡ lay set.ais kind (fields_in epc)
