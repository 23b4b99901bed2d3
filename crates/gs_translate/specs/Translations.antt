-- The translation of a text: one spelling in the requested form, or the first reason why there is none.
use Rattle.std.specs.Prelude.{◌≡◌, true, ℕ, List, Result, Ok}
use Rattle.gs_dlink.specs.Stems.{stem_ok}
use Rattle.gs_tables_document.specs.declared.document.LevelName.{LevelName}
use Rattle.gs_tables_document.specs.declared.document.LevelName.TheVariants as level
use Rattle.gs_element.specs.BracketedTexts.{bracketed_text}
use Rattle.gs_element.specs.Raw.{raw_text}
use Rattle.gs_epc.specs.declared.error.EpcWriteFault.{EpcWriteFault}
use Rattle.gs_epc.specs.declared.error.EpcWriteFault.TheVariants as write
use Rattle.gs_epc.specs.Writes.{WritesAs}
use Rattle.gs_ident.specs.Elements.{Elements, pairs_of}
use Rattle.gs_ident.specs.Links.{canonical_link, spelled}
use Rattle.gs_prefix.specs.declared.entry.PrefixEntry.{PrefixEntry}
use Rattle.gs_tables.specs.Tables.{TableRows}
use Rattle.gs_translate.specs.declared.form.Form.{Form}
use Rattle.gs_translate.specs.declared.form.Form.TheVariants as form
use Rattle.gs_translate.specs.declared.reader.Meaning.{Meaning}
use Rattle.gs_translate.specs.declared.form.Options.{Options}
use Rattle.gs_translate.specs.declared.reason.Reason.{Reason}
use Rattle.gs_translate.specs.declared.reason.Reason.TheVariants.{NoOption, CannotHold, Memory}
use Rattle.gs_translate.specs.declared.form.Target.{Target}
use Rattle.gs_translate.specs.declared.form.Target.TheVariants.{Hex, Tag, Pure, Raw, Bracketed, Link, Canon}
use Rattle.gs_translate.specs.Meanings.{IsRead, Means}
use Rattle.gs_translate.specs.Steps.{Reworded, Then}
use Rattle.gs_translate.specs.Targets.{FitsFilter, epc_for, kept}

-- trusted, own: holds if the filter value of `options`, if any, is from 0 to 7, and a link may have their stem
pub record AreInOrder (options : Options) : Type 0 where
  pub filter : FitsFilter options.filter
  pub stem : stem_ok options.stem ≡ true

-- ---- tags and EPC URIs

-- trusted, own: the reason by which an EPC is not written
abbrev pub write_reason : EpcWriteFault → Reason
write_reason write.NoOption = NoOption
write_reason (write.CannotHold field why) = CannotHold field why
write_reason write.Memory = Memory

-- trusted, own: holds if `answer` is the text of a level for `meaning`, by the first option that holds the EPC, or the first
-- reason against it
abbrev pub IsOfLevel : TableRows → List PrefixEntry → Options → LevelName → Meaning → Result (List ℕ) Reason → Type 0
IsOfLevel set prefixes options level meaning answer =
    Then (λ epc. epc ≡ epc_for set prefixes options level meaning)
    (λ epc. Reworded write.Memory write_reason (WritesAs set level epc)) answer

-- ---- each form

-- trusted, own: holds if `answer` is the one spelling of `meaning` in the requested form, or the first reason why there is none
abbrev pub IsSpelling : TableRows → List PrefixEntry → Options → Target → Meaning → Result (List ℕ) Reason → Type 0
IsSpelling set prefixes options Hex meaning answer = IsOfLevel set prefixes options level.Binary meaning answer
IsSpelling set prefixes options Tag meaning answer = IsOfLevel set prefixes options level.Tag meaning answer
IsSpelling set prefixes options Pure meaning answer = IsOfLevel set prefixes options level.Pure meaning answer
IsSpelling set prefixes options Raw meaning answer = answer ≡ Ok (raw_text (pairs_of meaning.identity))
IsSpelling set prefixes options Bracketed meaning answer = answer ≡ Ok (bracketed_text (pairs_of meaning.identity))
IsSpelling set prefixes options Link meaning answer = answer ≡ Ok (spelled options.stem meaning.identity)
IsSpelling set prefixes options Canon meaning answer = answer ≡ Ok (canonical_link meaning.identity)

-- trusted, TDS 2.0, sections 6, 7, 12 and 14; GS1 General Specifications, sections 4 and 7.8; GS1 Digital Link URI Syntax,
-- sections 4 and 5; the reasons are own: Holds if `answer` is the translation of `text`, or why it is rejected. The translation
-- is the spelling of its meaning, narrowed if only keys are kept.
abbrev pub IsTranslation : TableRows → List PrefixEntry → Options → Form → Target → List ℕ → Result (List ℕ) Reason → Type 0
IsTranslation set prefixes options from to text answer =
    Then (IsRead set from text) (λ meaning. IsSpelling set prefixes options to (kept set options.keys_only meaning)) answer

-- trusted, own: the data by which texts are translated, and from which form to which
pub record Translating : Type 0 where
  pub set : TableRows
  pub prefixes : List PrefixEntry
  pub options : Options
  pub from : Form
  pub to : Target

-- trusted, own: the translation by these tables, prefixes and options, from the form `from` to the target `to`
abbrev pub translating_by : TableRows → List PrefixEntry → Options → Form → Target → Translating
translating_by set prefixes options from to = record { set = set; prefixes = prefixes; options = options; from = from; to = to }

-- trusted, own: holds if `answer` is the translation of `text` by `t`
abbrev pub IsTranslated : Translating → List ℕ → Result (List ℕ) Reason → Type 0
IsTranslated t text answer = IsTranslation t.set t.prefixes t.options t.from t.to text answer

-- ---- the facts that laws state about texts

-- trusted, own: holds if `text` and `given`, if both mean something, name the same elements
abbrev pub NameOne : TableRows → Form → List ℕ → Form → List ℕ → Type 0
NameOne set form text other given =
    (one two : Meaning) → IsRead set form text (Ok one) → IsRead set other given (Ok two) → one.identity ≡ two.identity

-- trusted, own: the form in which a target is read: a canonical link is a link
abbrev pub form_of : Target → Form
form_of Hex = form.Hex
form_of Tag = form.Tag
form_of Pure = form.Pure
form_of Raw = form.Raw
form_of Bracketed = form.Bracketed
form_of Link = form.Link
form_of Canon = form.Link

-- trusted, own: holds if the target is written of an identity directly: an element string or a link
abbrev pub IsOfPairs : Target → Type 0
IsOfPairs Hex = ⊥
IsOfPairs Tag = ⊥
IsOfPairs Pure = ⊥
IsOfPairs Raw = Unit {0}
IsOfPairs Bracketed = Unit {0}
IsOfPairs Link = Unit {0}
IsOfPairs Canon = Unit {0}

-- trusted, own: holds if `text` means `identity` in the form of the target `to`, however long it is
pub record MeansIdentity (set : TableRows) (to : Target) (text : List ℕ) (identity : Elements) : Type 0 where
  pub meaning : Meaning
  pub means : Means set (form_of to) text (Ok meaning)
  pub same : meaning.identity ≡ identity
