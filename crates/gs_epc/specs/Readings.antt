-- The answers to tags and EPC URIs: TDS 2.0, sections 6, 7 and 14, by the derivations of TDT 2.0, section 3.
use Rattle.std.specs.Prelude.{◌≡◌, ◌%◌, ◌<◌, ◌≤◌, ℕ, List, length, Some, slice_get, Result, Ok, Err}
use Rattle.std.specs.List.{AllPass}
use Rattle.gs_bits.specs.HexText.{FirstBadDigit, bits_of_hex, is_hex_digit}
use Rattle.gs_bits.specs.declared.errors.HexFault.{HexFault}
use Rattle.gs_bits.specs.declared.errors.HexFault.TheVariants.{OddDigits, Full, BadDigit}
use Rattle.gs_grammar.specs.Derivations.{Derivation, OneDerivation}
use Rattle.gs_tables_document.specs.declared.document.LevelName.{LevelName}
use Rattle.gs_tables_document.specs.declared.document.LevelName.TheVariants.{Binary}
use Rattle.gs_tables_document.specs.declared.document.OptInfo.{OptInfo}
use Rattle.gs_tables.specs.Tables.{TableRows, level_rows}
use Rattle.gs_epc.specs.declared.epc.Epc.{Epc}
use Rattle.gs_epc.specs.declared.error.EpcFault.{EpcFault}
use Rattle.gs_epc.specs.declared.error.EpcFault.TheVariants.{Hex, NoReading, Memory}
use Rattle.gs_epc.specs.Epcs.{epc_of, options_of}

-- trusted, TDT 2.0, section 3: holds if `symbols` have one derivation in `level`, whose option and values say `epc`
pub record Says (set : TableRows) (level : LevelName) (symbols : List ℕ) (epc : Epc) : Type 0 where
  pub option : ℕ
  pub values : List (List ℕ)
  pub info : OptInfo
  pub read : OneDerivation (options_of level set) symbols option values
  pub said : slice_get (level_rows level set).info option ≡ Some info
  pub fields : epc ≡ epc_of info values

-- trusted, TDS 2.0, sections 6, 12 and 14: Holds if the result is the EPC of the one derivation of `symbols` in `level`, or
-- that there is none. `Memory` may be returned instead.
abbrev pub ReadsAs : TableRows → LevelName → List ℕ → Result Epc EpcFault → Type 0
ReadsAs set level symbols (Ok epc) = Says set level symbols epc
ReadsAs set level symbols (Err NoReading) = Derivation (options_of level set) symbols → ⊥
ReadsAs set level symbols (Err Memory) = Unit {0}
ReadsAs set level symbols (Err (Hex error)) = ⊥

-- trusted, own: holds if the fault is the first reason why `text` is not a hexadecimal text of at most 128 digits
abbrev pub IsHexFault : List ℕ → HexFault → Type 0
IsHexFault text OddDigits = length text % 2 ≡ 1
IsHexFault text Full = (length text % 2 ≡ 0) × (128 < length text)
IsHexFault text (BadDigit place) = (length text % 2 ≡ 0) × (length text ≤ 128) × FirstBadDigit text place

-- trusted, own: holds if `text` is an even number of hexadecimal digits, at most 128
pub record IsHex (text : List ℕ) : Type 0 where
  pub even : length text % 2 ≡ 0
  pub short : length text ≤ 128
  pub digits : AllPass is_hex_digit text

-- trusted, TDS 2.0, section 14; the order of errors is own: Holds if the result is why the text is not a text of hexadecimal
-- digits, or the result for its bits. `Memory` may be returned instead.
abbrev pub ReadsHex : TableRows → List ℕ → Result Epc EpcFault → Type 0
ReadsHex set text (Err (Hex error)) = IsHexFault text error
ReadsHex set text (Err Memory) = Unit {0}
ReadsHex set text answer = IsHex text × ReadsAs set Binary (bits_of_hex text) answer
