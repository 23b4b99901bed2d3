-- Definitions for proofs and private functions, in addition to Readings.antt.
use Rattle.std.specs.Prelude.{ℕ, List, Result}
use Rattle.gs_grammar_level.specs.Readings.{Reads}
use Rattle.gs_grammar_level.specs.declared.read.Reading.{Reading}
use Rattle.gs_tables_document.specs.declared.document.LevelName.{LevelName}
use Rattle.gs_tables.specs.Tables.{TableRows}
use Rattle.gs_epc.specs.declared.epc.Epc.{Epc}
use Rattle.gs_epc.specs.declared.error.EpcFault.{EpcFault}
use Rattle.gs_epc.specs.Epcs.{options_of}
use Rattle.gs_epc.specs.Readings.{ReadsAs}

-- holds if, whatever symbols have this reading in the level, the result is the answer to them
abbrev pub AnswersReading : TableRows → LevelName → Reading → Result Epc EpcFault → Type 0
AnswersReading set level reading result = (symbols : List ℕ) → Reads (options_of level set) symbols reading → ReadsAs set level symbols result
