-- The answers of `canon`, by canonical links.
use Rattle.std.proofs.Common.{◌≡◌, ◌↔◌, ℕ, Bool, List, [], Option, refl, sym, ap, ◌∙◌}
use Rattle.std.specs.Prelude.{Result, Ok, Err}
use Rattle.tdl_lines.specs.Outputs.{LineAnswer, accepted, rejected}
use Rattle.gs_ident.specs.Links.{canonical_link}
use Rattle.gs_ident.proofs.LinkLemmas.{one_link_each}
use Rattle.gs_tables.specs.Judgements.{IsLoaded}
use Rattle.gs_tables.specs.Tables.{TableRows}
use Rattle.gs_translate.specs.declared.form.Form.{Form}
use Rattle.gs_translate.specs.declared.reader.Meaning.{Meaning}
use Rattle.gs_translate.specs.declared.reason.Reason.{Reason}
use Rattle.gs_translate.specs.declared.form.Target.TheVariants.{Canon}
use Rattle.gs_translate.specs.Answers.{IsAnswer}
use Rattle.gs_translate.specs.Meanings.{IsRead}
use Rattle.gs_translate.specs.Reasons.{reason_text}
use Rattle.gs_translate.specs.Steps.{goes_on, rejects}
use Rattle.gs_translate.specs.Targets.{kept}
use Rattle.gs_translate.specs.Translations.{IsTranslation, NameOne}
use Rattle.gs_translate.proofs.MadeLaws.{made_of_read}
use Rattle.gs_translate.proofs.PairLaws.{ais_kept}
use Rattle.gs_translate.proofs.ReadAgain.{kept_made}
use Rattle.gs_translate.proofs.SameLinks.{canonical_translation, equal_links, same_meaning}
use Rattle.tdl_arguments.specs.Requests.{Asked, Values, no_options, options_of}
use Rattle.tdl_loads.specs.declared.loads.Loaded.{Loaded}
use Rattle.tdl_loads.specs.Loads.{FilesGive}
use Rattle.tdl_loads.proofs.ReadLemmas.{loaded_of}
use Rattle.tdl_answers.specs.TranslatedAnswers.{IsCanonLine, IsTranslatedLine}
use Rattle.tdl_messages.specs.AnswerLines.{line_of}
use Rattle.tdl_run.specs.Works.{KeepOne, canonizing, translating}
use Rattle.gs_port.specs.Files.{FilesHeld}

pub canon_lines : (loaded : Loaded) (form : Form) (text : List ℕ) (line : LineAnswer)
    → IsTranslatedLine (canonizing loaded form) text line ↔ IsCanonLine loaded.tables form text line
canon_lines loaded form text line = (
  (λ l. record { answer = l.answer; is_answer = (canonical_translation loaded.tables [] no_options form text l.answer refl).0 l.is_answer; is = l.is }),
  (λ l. record { answer = l.answer; is_answer = (canonical_translation loaded.tables [] no_options form text l.answer refl).1 l.is_answer; is = l.is }),
)

-- the answer of a line that is accepted
accepted_answer : (set : TableRows) (form : Form) (text link : List ℕ) → IsCanonLine set form text (accepted link) → IsAnswer set form text (Ok link)
accepted_answer set form text link l = by l.answer l.is_answer l.is
  where
    by : (answer : Result (List ℕ) Reason) → IsAnswer set form text answer → accepted link ≡ line_of answer → IsAnswer set form text (Ok link)
    by (Ok found) a e = let same : link ≡ found = cc in rw same a
    by (Err reason) a e = absurd (let f : accepted link ≡ rejected (reason_text reason) = e in cc)

canon_same : (loaded : Loaded) (form other : Form) (text given link wanted : List ℕ) → IsLoaded loaded.tables
    → IsTranslatedLine (canonizing loaded form) text (accepted link) → IsTranslatedLine (canonizing loaded other) given (accepted wanted)
    → (link ≡ wanted) ↔ NameOne loaded.tables form text other given
canon_same loaded form other text given link wanted keeps a b =
    equal_links loaded.tables form other text given link wanted keeps.shaped
    (accepted_answer loaded.tables form text link ((canon_lines loaded form text (accepted link)).0 a))
    (accepted_answer loaded.tables other given wanted ((canon_lines loaded other given (accepted wanted)).0 b))

-- ---- the kept elements

-- the meaning of a line that is answered by a canonical link
record Linked (set : TableRows) (keys_only : Bool) (form : Form) (text link : List ℕ) : Type 0 where
  meaning : Meaning
  read : IsRead set form text (Ok meaning)
  is : link ≡ canonical_link (kept set keys_only meaning).identity

linked : (loaded : Loaded) (values : Values) (form : Form) (text link : List ℕ)
    → IsTranslatedLine (translating loaded values form Canon) text (accepted link) → Linked loaded.tables values.keys_only form text link
linked loaded values form text link l = by l.answer l.is_answer l.is
  where
    of_link : (found : List ℕ) → link ≡ found → IsTranslation loaded.tables loaded.prefixes (options_of values) form Canon text (Ok found)
        → Linked loaded.tables values.keys_only form text link
    of_link found same (rejects error read e) = absurd (let f : Ok found ≡ Err error = e in cc)
    of_link found same (goes_on meaning read e) =
        let f : Ok found ≡ Ok (canonical_link (kept loaded.tables values.keys_only meaning).identity) = e in
        record { meaning = meaning; read = read; is = cc }

    by : (answer : Result (List ℕ) Reason) → IsTranslation loaded.tables loaded.prefixes (options_of values) form Canon text answer
        → accepted link ≡ line_of answer → Linked loaded.tables values.keys_only form text link
    by (Ok found) a e = of_link found (cc) a
    by (Err reason) a e = absurd (let f : accepted link ≡ rejected (reason_text reason) = e in cc)

kept_same : (loaded : Loaded) (values : Values) (form other : Form) (text given link wanted : List ℕ) → IsLoaded loaded.tables
    → IsTranslatedLine (translating loaded values form Canon) text (accepted link)
    → IsTranslatedLine (translating loaded values other Canon) given (accepted wanted)
    → (link ≡ wanted) ↔ KeepOne loaded.tables values.keys_only form text other given
kept_same loaded values form other text given link wanted keeps a b =
    let set = loaded.tables in
    let keys = values.keys_only in
    let one = linked loaded values form text link a in
    let two = linked loaded values other given wanted b in
    let made = kept_made set keys one.meaning keeps.shaped (made_of_read set form text one.meaning keeps.shaped one.read) in
    let made' = kept_made set keys two.meaning keeps.shaped (made_of_read set other given two.meaning keeps.shaped two.read) in
    let each = one_link_each set.ais (ais_kept set keeps.shaped) (kept set keys one.meaning).identity (kept set keys two.meaning).identity made made' in (
      (λ e m n r s.
          let same = each.1 (sym one.is ∙ e ∙ two.is) in
          ap (λ (x : Meaning). (kept set keys x).identity) (same_meaning set form text m one.meaning keeps.shaped r one.read) ∙ same ∙ ap
          (λ (x : Meaning). (kept set keys x).identity) (same_meaning set other given two.meaning n keeps.shaped two.read s)),
      (λ same. one.is ∙ each.0 (same one.meaning two.meaning one.read two.read) ∙ sym two.is),
    )

-- ---- by tables that files give

pub canon_given : (files : Option FilesHeld) (asked : Asked) (loaded : Loaded) (form other : Form) (text given link wanted : List ℕ)
    → FilesGive files asked (Ok loaded) → IsTranslatedLine (canonizing loaded form) text (accepted link)
    → IsTranslatedLine (canonizing loaded other) given (accepted wanted) → (link ≡ wanted) ↔ NameOne loaded.tables form text other given
canon_given files asked loaded form other text given link wanted gives a b = canon_same loaded form other text given link wanted
    (loaded_of files asked loaded gives) a b

pub kept_given : (files : Option FilesHeld) (asked : Asked) (loaded : Loaded) (values : Values) (form other : Form) (text given link wanted : List ℕ)
    → FilesGive files asked (Ok loaded) → IsTranslatedLine (translating loaded values form Canon) text (accepted link)
    → IsTranslatedLine (translating loaded values other Canon) given (accepted wanted)
    → (link ≡ wanted) ↔ KeepOne loaded.tables values.keys_only form text other given
kept_given files asked loaded values form other text given link wanted gives a b = kept_same loaded values form other text given link wanted
    (loaded_of files asked loaded gives) a b
