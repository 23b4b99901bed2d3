-- How a key is taken apart: TDS 2.0, section 7 (correspondence between EPCs and GS1 keys), from the key to the EPC.
use Rattle.std.specs.Prelude.{◌≡◌, ℕ, ◌-◌, List, [], ◌∷◌, ◌++◌, take, drop, find, Option, Some, None, slice_get, Result, Ok, Err, slice_index}
use Rattle.std.specs.Option.{option_and_then, option_map, option_map_or}
use Rattle.gs_ai.specs.declared.pair.Pair.{Pair}
use Rattle.gs_ai.specs.declared.part.Part.{Part}
use Rattle.gs_ai.specs.declared.part.Part.TheVariants.{Zero, NumCheck, Set}
use Rattle.gs_ai.specs.declared.row.AiRow.{AiRow}
use Rattle.gs_ai.specs.Values.{has_code}
use Rattle.gs_ident.specs.Elements.{Elements}
use Rattle.gs_ident.specs.Identities.{pair_with}
use Rattle.gs_tables_document.specs.declared.document.Kind.{Kind}
use Rattle.gs_tables_document.specs.declared.document.SerialAt.{SerialAt}
use Rattle.gs_tables_document.specs.declared.document.SerialAt.TheVariants.{Nowhere, Tail, Ai}
use Rattle.gs_tables.specs.Tables.{TableRows}
use Rattle.gs_epc.specs.declared.epc.Epc.{Epc}
use Rattle.gs_epc.specs.declared.error.FieldsFault.{FieldsFault}
use Rattle.gs_epc.specs.declared.error.FieldsFault.TheVariants.{MissingSerial, Memory}
use Rattle.gs_epc.specs.Layout.{KeyFields, parts_at}

-- ---- the parts of a key's value

-- trusted, own: the value after the leading zero, if the parts begin with one
abbrev pub behind_zero : List Part → List ℕ → List ℕ
behind_zero (Zero ∷ _) value = drop 1 value
behind_zero _ value = value

-- trusted, own: the digits of the key with its check digit, after a zero: that many
abbrev pub checked_count : List Part → ℕ
checked_count (Zero ∷ NumCheck count ∷ _) = count
checked_count (NumCheck count ∷ _) = count
checked_count _ = 0

-- trusted, own: the digits of the key without its check digit
abbrev pub digits_in : List Part → List ℕ → List ℕ
digits_in parts value = take (checked_count parts - 1) (behind_zero parts value)

-- trusted, own: the rest of a key after the check digit
abbrev pub tail_in : List Part → List ℕ → List ℕ
tail_in parts value = drop (checked_count parts) (behind_zero parts value)

-- trusted, own: The company prefix: the first n of the characters, or of the digits after the lead digits, or all of fewer.
abbrev pub prefix_in : List Part → ℕ → ℕ → List ℕ → List ℕ
prefix_in (Set _ ∷ []) lead n value = take n value
prefix_in parts lead n value = take n (drop lead (digits_in parts value))

-- trusted, own: The rest: the characters after the prefix, or the lead digits followed by the digits after the prefix.
abbrev pub rest_in : List Part → ℕ → ℕ → List ℕ → List ℕ
rest_in (Set _ ∷ []) lead n value = drop n value
rest_in parts lead n value = take lead (digits_in parts value) ++ drop n (drop lead (digits_in parts value))

-- trusted, own: the value of a key, by the kind of this index, from the company prefix on: after a leading zero and the lead
-- digits
abbrev pub value_from_prefix : TableRows → ℕ → List ℕ → List ℕ
value_from_prefix set kind value =
    option_map_or (λ (row : Kind). drop row.lead (behind_zero (parts_at set.ais row.key) value)) (slice_get set.kinds kind) []

-- ---- the serial

-- trusted, own: the text, if it is not empty
abbrev pub unless_empty : List ℕ → Option (List ℕ)
unless_empty [] = None
unless_empty text = Some text

-- trusted, own: The serial: empty if the kind has none, the tail of the key, or the value of its qualifier. If that is absent,
-- its text for none is the serial, if there is one.
abbrev pub serial_in : List AiRow → List Part → SerialAt → Elements → Option (List ℕ)
serial_in ais parts Nowhere identity = Some []
serial_in ais parts Tail identity = unless_empty (tail_in parts identity.key.value)
serial_in ais parts (Ai code) identity =
    option_map_or (λ (pair : Pair). Some pair.value) (pair_with identity.qualifiers code)
    (unless_empty (option_map_or (λ (row : AiRow). row.none) (find (has_code code) ais) []))

-- ---- the fields

-- trusted, own: the fields of the value of a key by its parts, its kind and a prefix of n, with this serial
abbrev pub fields_at : List Part → Kind → ℕ → List ℕ → List ℕ → KeyFields
fields_at parts kind n value serial = record {
  prefix = prefix_in parts kind.lead n value;
  rest = rest_in parts kind.lead n value;
  piece = take (slice_index kind.further 0) (tail_in parts value);
  total = take (slice_index kind.further 1) (drop (slice_index kind.further 0) (tail_in parts value));
  serial = serial;
}

-- trusted, TDS 2.0, section 7: the fields of an identity by its kind and a prefix of n, unless its serial is missing
abbrev pub take_apart : List AiRow → Kind → Elements → ℕ → Option KeyFields
take_apart ais kind identity n =
    option_map (fields_at (parts_at ais kind.key) kind n identity.key.value)
    (serial_in ais (parts_at ais kind.key) kind.serial identity)

-- trusted, own: the EPC of `fields`, without the encoding and the filter of a tag
abbrev pub epc_of_key : ℕ → ℕ → KeyFields → Epc
epc_of_key kind n fields =
    record {
      kind = kind;
      encoding = [];
      filter = None;
      gcp = n;
      prefix = fields.prefix;
      rest = fields.rest;
      piece = fields.piece;
      total = fields.total;
      serial = fields.serial;
    }

-- trusted, own: the fields of an identity by the kind of this index and a prefix of n, unless its serial is missing
abbrev pub epc_at : TableRows → ℕ → Elements → ℕ → Option Epc
epc_at set kind identity n =
    option_and_then (λ (row : Kind). option_map (epc_of_key kind n) (take_apart set.ais row identity n))
    (slice_get set.kinds kind)

-- trusted, TDS 2.0, section 7: holds if `identity` has only the key of `kind` and its serial
pub record IsOfKind (kind : Kind) (identity : Elements) : Type 0 where
  pub key : identity.key.code ≡ kind.key
  pub qualifiers : (i : ℕ) (pair : Pair) → slice_get identity.qualifiers i ≡ Some pair → kind.serial ≡ Ai pair.code
  pub attributes : identity.attributes ≡ []

-- trusted, TDS 2.0, section 7: Holds if the result is that of `fields_of`: the fields of the identity, or that its serial is
-- missing. `Memory` may be returned instead.
abbrev pub IsTakenApart : TableRows → ℕ → Elements → ℕ → Result Epc FieldsFault → Type 0
IsTakenApart set kind identity n (Ok epc) = epc_at set kind identity n ≡ Some epc
IsTakenApart set kind identity n (Err MissingSerial) = epc_at set kind identity n ≡ None
IsTakenApart set kind identity n (Err Memory) = Unit {0}
