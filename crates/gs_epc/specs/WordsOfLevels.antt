-- The words of a text or of bits, and the EPC that they say.
use Rattle.std.specs.Prelude.{ℕ, List, Ok}
use Rattle.gs_grammar.specs.Derivations.{OneDerivation}
use Rattle.gs_grammar_level.specs.OwnWords.{WordsForm}
use Rattle.gs_tables_document.specs.declared.document.LevelName.{LevelName}
use Rattle.gs_tables.specs.Tables.{TableRows}
use Rattle.gs_epc.specs.declared.epc.Epc.{Epc}
use Rattle.gs_epc.specs.declared.level_words.LevelWords.{LevelWords}
use Rattle.gs_epc.specs.declared.level_words.LevelWords.TheVariants.{Text, Bits}
use Rattle.gs_epc.specs.Epcs.{options_of}
use Rattle.gs_epc.specs.Readings.{ReadsAs}

-- the option and the values of words
abbrev pub words_in : LevelWords → WordsForm
words_in (Text words) = words
words_in (Bits words) = words

-- holds if, whatever symbols have these words in the level, `epc` is the answer to them
abbrev pub AnswersWords : TableRows → LevelName → WordsForm → Epc → Type 0
AnswersWords set level words epc = (symbols : List ℕ) → OneDerivation (options_of level set) symbols words.option words.values → ReadsAs set level symbols (Ok epc)
