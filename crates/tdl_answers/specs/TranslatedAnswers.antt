-- The answer line of a text, by its translation.
use Rattle.std.specs.Prelude.{ℕ, List}
use Rattle.tdl_messages.specs.AnswerLines.{IsLineOf}
use Rattle.tdl_lines.specs.Outputs.{LineAnswer}
use Rattle.gs_tables.specs.Tables.{TableRows}
use Rattle.gs_translate.specs.declared.form.Form.{Form}
use Rattle.gs_translate.specs.Answers.{IsAnswer}
use Rattle.gs_translate.specs.Translations.{IsTranslated, Translating}

-- trusted, own: holds if `line` is the answer line of `text`, by its translation by `t`
abbrev pub IsTranslatedLine : Translating → List ℕ → LineAnswer → Type 0
IsTranslatedLine t text line = IsLineOf (IsTranslated t text) line

-- trusted, own: holds if `line` is the answer line of `text`, by its canonical link
abbrev pub IsCanonLine : TableRows → Form → List ℕ → LineAnswer → Type 0
IsCanonLine set form text line = IsLineOf (IsAnswer set form text) line
