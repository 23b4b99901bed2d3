-- The answers to dumps and to the lines that show them. They follow TDS 2.0, sections 9 (the control word), 12 (tag URIs), 14
-- (bits) and 15 (the contents of the bank). The order of errors and the form of the lines are this project's own.
use Rattle.std.specs.Prelude.{◌≡◌, ◌<◌, ◌≤◌, ◌*◌, ℕ, Bool, true, false, List, ◌++◌, length, Result, Ok, Err}
use Rattle.gs_bits.specs.HexText.{bits_of_hex, hex_of_bits}
use Rattle.gs_grammar.specs.Derivations.{Derivation}
use Rattle.gs_tables_document.specs.declared.document.LevelName.TheVariants.{Binary, Tag}
use Rattle.gs_tables.specs.Tables.{TableRows}
use Rattle.gs_epc.specs.declared.error.EpcWriteFault.{EpcWriteFault}
use Rattle.gs_epc.specs.declared.error.EpcWriteFault.TheVariants.{NoOption as NoOptionOf, CannotHold as CannotHoldOf, Memory as MemoryOf}
use Rattle.gs_epc.specs.Epcs.{options_of}
use Rattle.gs_epc.specs.Readings.{IsHex, IsHexFault, Says}
use Rattle.gs_epc.specs.Writes.{Writes, WritesAs}
use Rattle.gs_membank.specs.declared.dump.ControlWord.{ControlWord}
use Rattle.gs_membank.specs.declared.dump.Dump.{Dump}
use Rattle.gs_membank.specs.declared.error.DumpFault.{DumpFault}
use Rattle.gs_membank.specs.declared.error.DumpFault.TheVariants.{Hex, NoWord, Extended, Toggle, Words, NoReading, Memory}
use Rattle.gs_membank.specs.declared.error.DumpWriteFault.{DumpWriteFault}
use Rattle.gs_membank.specs.declared.error.DumpWriteFault.TheVariants.{NoOption, CannotHold, TooLong, Memory as WriteMemory}
use Rattle.gs_membank.specs.declared.error.DumpLineFault.{DumpLineFault}
use Rattle.gs_membank.specs.declared.error.DumpLineFault.TheVariants.{Line, NoReading as NoTag, Memory as LineMemory}
use Rattle.gs_membank.specs.Banks.{BeginsWith, IsPlain, control_bits}
use Rattle.gs_membank.specs.ShownLines.{IsShownStart, shown_start}

-- ---- dumps that are read

-- trusted, TDS 2.0, section 9: the control word of a dump, of that many words
abbrev pub word_of : ℕ → Dump → ControlWord
word_of words dump =
    record { words = words; user = dump.user; extended = false; toggle = false; attributes = dump.attributes }

-- trusted, TDS 2.0, sections 9, 14 and 15: Holds if `bits` are the control word of `dump`, and 16 times as many bits as it
-- says. These say the EPC of `dump`.
pub record IsBank (set : TableRows) (bits : List ℕ) (dump : Dump) : Type 0 where
  pub words : ℕ
  pub encoding : List ℕ
  pub begins : BeginsWith bits (word_of words dump) encoding
  pub size : length encoding ≡ 16 * words
  pub says : Says set Binary encoding dump.epc

-- trusted, TDS 2.0, section 9; the order is own: holds if the fault is the first reason why a control word, `word`, and the
-- bits after it, `behind`, are not a dump
abbrev pub IsWordError : TableRows → ControlWord → List ℕ → DumpFault → Type 0
IsWordError set word behind Extended = word.extended ≡ true
IsWordError set word behind Toggle = (word.extended ≡ false) × (word.toggle ≡ true)
IsWordError set word behind (Words said bits) =
    IsPlain word × (said ≡ word.words) × (bits ≡ length behind) × (length behind ≡ 16 * word.words → ⊥)
IsWordError set word behind NoReading =
    IsPlain word × (length behind ≡ 16 * word.words) × (Derivation (options_of Binary set) behind → ⊥)
IsWordError set word behind error = ⊥

-- trusted, own: holds if `bits` begin with a control word, and `error` is the reason why they are not a dump
pub record IsBankError (set : TableRows) (bits : List ℕ) (error : DumpFault) : Type 0 where
  pub word : ControlWord
  pub behind : List ℕ
  pub begins : BeginsWith bits word behind
  pub reason : IsWordError set word behind error

-- trusted, TDS 2.0, sections 9, 14 and 15; the order of errors is own: Holds if the result is the dump of `text`, or the first
-- reason against it. It is not a hexadecimal text of at most 128 digits, is shorter than a control word, or its bits are not a
-- dump. `Memory` may be returned instead.
abbrev pub ReadsDump : TableRows → List ℕ → Result Dump DumpFault → Type 0
ReadsDump set text (Ok dump) = IsHex text × IsBank set (bits_of_hex text) dump
ReadsDump set text (Err (Hex error)) = IsHexFault text error
ReadsDump set text (Err NoWord) = IsHex text × (length (bits_of_hex text) < 16)
ReadsDump set text (Err Memory) = Unit {0}
ReadsDump set text (Err error) = IsHex text × IsBankError set (bits_of_hex text) error

-- ---- dumps that are written

-- trusted, own: the reason why a dump is not written if its EPC is not
abbrev pub of_writing : EpcWriteFault → DumpWriteFault
of_writing NoOptionOf = NoOption
of_writing (CannotHoldOf field why) = CannotHold field why
of_writing MemoryOf = WriteMemory

-- trusted, TDS 2.0, section 9: Holds if `text` is the control word of `dump` and the encoding of its EPC. The control word says
-- the number of words of four digits, at most 31.
pub record WrittenDump (set : TableRows) (dump : Dump) (text : List ℕ) : Type 0 where
  pub encoding : List ℕ
  pub words : ℕ
  pub written : Writes set Binary dump.epc encoding
  pub size : length encoding ≡ 4 * words
  pub few : words ≤ 31
  pub text_is : text ≡ hex_of_bits (control_bits (word_of words dump)) ++ encoding

-- trusted, own: holds if the encoding that is written of the EPC of `dump` has more than 31 words, of four digits each
pub record IsTooLong (set : TableRows) (dump : Dump) : Type 0 where
  pub encoding : List ℕ
  pub words : ℕ
  pub written : Writes set Binary dump.epc encoding
  pub size : length encoding ≡ 4 * words
  pub many : 31 < words

-- trusted, TDS 2.0, sections 9, 14 and 15: Holds if the result is the text of `dump`, that its encoding is too long, or why its
-- EPC is not written in bits. `Memory` may be returned instead.
abbrev pub WritesDump : TableRows → Dump → Result (List ℕ) DumpWriteFault → Type 0
WritesDump set dump (Ok text) = WrittenDump set dump text
WritesDump set dump (Err TooLong) = IsTooLong set dump
WritesDump set dump (Err NoOption) = WritesAs set Binary dump.epc (Err NoOptionOf)
WritesDump set dump (Err (CannotHold field why)) = WritesAs set Binary dump.epc (Err (CannotHoldOf field why))
WritesDump set dump (Err WriteMemory) = Unit {0}

-- ---- lines

-- trusted, TDS 2.0, section 12; the form is own: holds if `text` is the line of `dump`, with the tag URI that is written of its
-- EPC
pub record ShownDump (set : TableRows) (dump : Dump) (text : List ℕ) : Type 0 where
  pub tag : List ℕ
  pub written : Writes set Tag dump.epc tag
  pub text_is : text ≡ shown_start dump.user dump.attributes ++ tag

-- trusted, TDS 2.0, section 12; the form is own: Holds if the result is the line of `dump`, or why its EPC is not written as a
-- tag URI. `Memory` may be returned instead.
abbrev pub ShowsDump : TableRows → Dump → Result (List ℕ) DumpWriteFault → Type 0
ShowsDump set dump (Ok text) = ShownDump set dump text
ShowsDump set dump (Err TooLong) = ⊥
ShowsDump set dump (Err NoOption) = WritesAs set Tag dump.epc (Err NoOptionOf)
ShowsDump set dump (Err (CannotHold field why)) = WritesAs set Tag dump.epc (Err (CannotHoldOf field why))
ShowsDump set dump (Err WriteMemory) = Unit {0}

-- trusted, TDS 2.0, section 12; the form is own: holds if `text` begins as the line of `dump`, and the rest is a tag URI of its
-- EPC
pub record IsShown (set : TableRows) (text : List ℕ) (dump : Dump) : Type 0 where
  pub rest : List ℕ
  pub start : IsShownStart text dump.user dump.attributes rest
  pub says : Says set Tag rest dump.epc

-- trusted, own: holds if `text` begins as a line of a dump, and the rest has no derivation in the level of tag URIs
pub record ShowsNoTag (set : TableRows) (text : List ℕ) : Type 0 where
  pub user : Bool
  pub attributes : ℕ
  pub rest : List ℕ
  pub start : IsShownStart text user attributes rest
  pub none : Derivation (options_of Tag set) rest → ⊥

-- trusted, TDS 2.0, section 12; the form is own: Holds if the result is the dump of the line `text`, or that it does not begin
-- as such a line or has no tag. `Memory` may be returned instead.
abbrev pub ReadsShown : TableRows → List ℕ → Result Dump DumpLineFault → Type 0
ReadsShown set text (Ok dump) = IsShown set text dump
ReadsShown set text (Err Line) = (user : Bool) (attributes : ℕ) (rest : List ℕ) → IsShownStart text user attributes rest → ⊥
ReadsShown set text (Err NoTag) = ShowsNoTag set text
ReadsShown set text (Err LineMemory) = Unit {0}
