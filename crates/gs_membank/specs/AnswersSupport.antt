-- Definitions for private functions, in addition to Answers.antt.
use Rattle.std.specs.Prelude.{◌≡◌, ◌*◌, List, ℕ, length, Err}
use Rattle.gs_bits.specs.HexText.{bits_of_hex}
use Rattle.gs_tables.specs.Tables.{TableRows}
use Rattle.gs_epc.specs.Readings.{IsHex}
use Rattle.gs_membank.specs.declared.dump.ControlWord.{ControlWord}
use Rattle.gs_membank.specs.declared.error.DumpFault.{DumpFault}
use Rattle.gs_membank.specs.Answers.{ReadsDump}
use Rattle.gs_membank.specs.Banks.{BeginsWith, IsPlain}

-- holds if a hexadecimal text begins with a plain control word, which says as many words as there are after it
pub record IsHeadOf (text : List ℕ) (word : ControlWord) : Type 0 where
  pub hex : IsHex text
  pub behind : List ℕ
  pub begins : BeginsWith (bits_of_hex text) word behind
  pub plain : IsPlain word
  pub whole : length behind ≡ 16 * word.words

-- holds if the text is rejected with `error`, whatever the tables
abbrev pub RejectsHead : List ℕ → DumpFault → Type 0
RejectsHead text error = (set : TableRows) → ReadsDump set text (Err error)
