-- Definitions for proofs and private functions: the places of the rows of kinds.
use Rattle.std.specs.Prelude.{ℕ, List, length, position, unwrap_or}
use Rattle.gs_ai.specs.declared.row.AiRow.{AiRow}
use Rattle.gs_ai.specs.Values.{has_code}
use Rattle.gs_tables_document.specs.declared.document.Kind.{Kind}
use Rattle.gs_tables_document.specs.declared.document.SerialAt.{SerialAt}
use Rattle.gs_tables_document.specs.declared.document.SerialAt.TheVariants.{Nowhere, Tail, Ai}
use Rattle.gs_tables.specs.declared.kind_places.KindPlaces.{KindPlaces}

-- the place of the row of a code, or the place after the last row
abbrev pub row_place : List AiRow → List ℕ → ℕ
row_place ais code = unwrap_or (position (has_code code) ais) (length ais)

-- the place of the row of a serial, or the place after the last row
abbrev pub serial_place : List AiRow → SerialAt → ℕ
serial_place ais (Ai code) = row_place ais code
serial_place ais Nowhere = length ais
serial_place ais Tail = length ais

-- the places of the rows of a kind
abbrev pub places_of : List AiRow → Kind → KindPlaces
places_of ais kind = record { key = row_place ais kind.key; serial = serial_place ais kind.serial }
