-- A text has at most one translation, and one.
use Rattle.std.proofs.Common.{◌≡◌, ℕ, List, Ok, refl, sym, ◌∙◌}
use Rattle.gs_tables_document.specs.declared.document.LevelName.{LevelName}
use Rattle.gs_tables_document.specs.declared.document.LevelName.TheVariants as level
use Rattle.gs_element.specs.BracketedTexts.{bracketed_text}
use Rattle.gs_element.specs.Raw.{raw_text}
use Rattle.gs_ident.specs.Elements.{pairs_of}
use Rattle.gs_ident.specs.Links.{canonical_link, spelled}
use Rattle.gs_prefix.specs.declared.entry.PrefixEntry.{PrefixEntry}
use Rattle.gs_tables.specs.Tables.{TableRows}
use Rattle.gs_translate.specs.declared.form.Form.{Form}
use Rattle.gs_translate.specs.declared.reader.Meaning.{Meaning}
use Rattle.gs_translate.specs.declared.form.Options.{Options}
use Rattle.gs_translate.specs.declared.form.Target.{Target}
use Rattle.gs_translate.specs.declared.form.Target.TheVariants.{Hex, Tag, Pure, Raw, Bracketed, Link, Canon}
use Rattle.gs_translate.specs.Conditions.{AsksForOne, AsksForSome}
use Rattle.gs_translate.specs.Meanings.{IsRead}
use Rattle.gs_epc.specs.declared.error.EpcWriteFault.TheVariants as write
use Rattle.gs_epc.specs.Writes.{WritesAs}
use Rattle.gs_translate.specs.Steps.{Reworded}
use Rattle.gs_translate.specs.StepsSupport.{HasOne, HasSome}
use Rattle.gs_translate.specs.Targets.{epc_for, kept}
use Rattle.gs_translate.specs.Translations.{IsOfLevel, IsSpelling, IsTranslation, write_reason}
use Rattle.gs_translate.proofs.AnswerLaws.{one_read, some_read}
use Rattle.gs_translate.proofs.OneWriting.{one_written}
use Rattle.gs_translate.proofs.SomeWriting.{some_written}
use Rattle.gs_translate.proofs.StepLaws.{then_one, then_some}

module _ (set : TableRows) (prefixes : List PrefixEntry) (options : Options) where
  one_of_level : (level : LevelName) (meaning : Meaning) → HasOne (IsOfLevel set prefixes options level meaning)
  one_of_level level meaning =
      then_one (λ epc. epc ≡ epc_for set prefixes options level meaning)
      (λ epc. Reworded write.Memory write_reason (WritesAs set level epc)) (λ one other a b. a ∙ sym b)
      (λ epc. one_written set level epc)

  one_spelling : (to : Target) (meaning : Meaning) → HasOne (IsSpelling set prefixes options to meaning)
  one_spelling Hex meaning = one_of_level level.Binary meaning
  one_spelling Tag meaning = one_of_level level.Tag meaning
  one_spelling Pure meaning = one_of_level level.Pure meaning
  one_spelling Raw meaning = λ one other a b. a ∙ sym b
  one_spelling Bracketed meaning = λ one other a b. a ∙ sym b
  one_spelling Link meaning = λ one other a b. a ∙ sym b
  one_spelling Canon meaning = λ one other a b. a ∙ sym b

  pub one_translation : (from : Form) (to : Target) (text : List ℕ) → AsksForOne from set → HasOne (IsTranslation set prefixes options from to text)
  one_translation from to text asks =
      then_one (IsRead set from text) (λ meaning. IsSpelling set prefixes options to (kept set options.keys_only meaning))
      (one_read set from text asks) (λ meaning. one_spelling to (kept set options.keys_only meaning))

  some_of_level : (level : LevelName) (meaning : Meaning) → HasSome (IsOfLevel set prefixes options level meaning)
  some_of_level level meaning =
      then_some (λ epc. epc ≡ epc_for set prefixes options level meaning)
      (λ epc. Reworded write.Memory write_reason (WritesAs set level epc)) (epc_for set prefixes options level meaning, refl)
      (λ epc said. some_written set level epc)

  some_spelling : (to : Target) (meaning : Meaning) → HasSome (IsSpelling set prefixes options to meaning)
  some_spelling Hex meaning = some_of_level level.Binary meaning
  some_spelling Tag meaning = some_of_level level.Tag meaning
  some_spelling Pure meaning = some_of_level level.Pure meaning
  some_spelling Raw meaning = (Ok (raw_text (pairs_of meaning.identity)), refl)
  some_spelling Bracketed meaning = (Ok (bracketed_text (pairs_of meaning.identity)), refl)
  some_spelling Link meaning = (Ok (spelled options.stem meaning.identity), refl)
  some_spelling Canon meaning = (Ok (canonical_link meaning.identity), refl)

  pub some_translation : (from : Form) (to : Target) (text : List ℕ) → AsksForSome from set → HasSome (IsTranslation set prefixes options from to text)
  some_translation from to text asks =
      then_some (IsRead set from text) (λ meaning. IsSpelling set prefixes options to (kept set options.keys_only meaning))
      (some_read set from text asks) (λ meaning read. some_spelling to (kept set options.keys_only meaning))
