-- Texts that have equal canonical links name the same elements.
use Rattle.std.proofs.Common.{◌≡◌, ℕ, Bool, true, false, List, Ok, Err, refl, sym, ap, subst, ◌∙◌}
use Rattle.std.specs.Prelude.{◌↔◌, Result}
use Rattle.gs_ident.specs.Links.{canonical_link}
use Rattle.gs_ident.proofs.LinkLemmas.{one_link_each}
use Rattle.gs_prefix.specs.declared.entry.PrefixEntry.{PrefixEntry}
use Rattle.gs_tables.specs.Tables.{IsShaped, TableRows}
use Rattle.gs_translate.specs.declared.form.Form.{Form}
use Rattle.gs_translate.specs.declared.form.Form.TheVariants as form
use Rattle.gs_translate.specs.declared.reader.Meaning.{Meaning}
use Rattle.gs_translate.specs.declared.form.Options.{Options}
use Rattle.gs_translate.specs.declared.reason.Reason.{Reason}
use Rattle.gs_translate.specs.declared.form.Target.TheVariants.{Canon}
use Rattle.gs_translate.specs.Answers.{IsAnswer}
use Rattle.gs_translate.specs.Conditions.{AsksForOne}
use Rattle.gs_translate.specs.Meanings.{IsRead}
use Rattle.gs_translate.specs.Steps.{goes_on, rejects}
use Rattle.gs_translate.specs.Targets.{kept}
use Rattle.gs_translate.specs.Translations.{IsTranslation, NameOne}
use Rattle.gs_translate.proofs.AnswerLaws.{one_read}
use Rattle.gs_translate.proofs.MadeLaws.{made_of_read}
use Rattle.gs_translate.proofs.PairLaws.{ais_kept}

-- tables that satisfy their rules meet the conditions of each form, so that no text means two things
pub shaped_suits_one : (set : TableRows) (form : Form) → IsShaped set → AsksForOne form set
shaped_suits_one set form.Hex shaped = tt
shaped_suits_one set form.Tag shaped = tt
shaped_suits_one set form.Pure shaped = tt
shaped_suits_one set form.Raw shaped = shaped
shaped_suits_one set form.Bracketed shaped = shaped
shaped_suits_one set form.Link shaped = tt

-- the meaning of a text that is answered
record Answered (set : TableRows) (form : Form) (text link : List ℕ) : Type 0 where
  meaning : Meaning
  read : IsRead set form text (Ok meaning)
  is : link ≡ canonical_link meaning.identity

answered : (set : TableRows) (form : Form) (text link : List ℕ) → IsAnswer set form text (Ok link) → Answered set form text link
answered set form text link (rejects error read e) = absurd (let f : Ok link ≡ Err error = e in cc)
answered set form text link (goes_on meaning read e) = record { meaning = meaning; read = read; is = let f : Ok link ≡ Ok (canonical_link meaning.identity) = e in cc }

pub same_meaning : (set : TableRows) (form : Form) (text : List ℕ) (one two : Meaning) → IsShaped set → IsRead set form text (Ok one)
    → IsRead set form text (Ok two) → one ≡ two
same_meaning set form text one two shaped a b = let e : Ok one ≡ Ok two = one_read set form text (shaped_suits_one set form shaped) (Ok one) (Ok two) a b in cc

pub equal_links : (set : TableRows) (form other : Form) (text given link wanted : List ℕ) → IsShaped set → IsAnswer set form text (Ok link)
    → IsAnswer set other given (Ok wanted) → (link ≡ wanted) ↔ NameOne set form text other given
equal_links set form other text given link wanted shaped a b =
    let one = answered set form text link a in
    let two = answered set other given wanted b in
    let made = made_of_read set form text one.meaning shaped one.read in
    let made' = made_of_read set other given two.meaning shaped two.read in
    let each = one_link_each set.ais (ais_kept set shaped) one.meaning.identity two.meaning.identity made made' in (
      (λ e m n r s.
          let same = each.1 (sym one.is ∙ e ∙ two.is) in
          ap (λ (x : Meaning). x.identity) (same_meaning set form text m one.meaning shaped r one.read) ∙ same ∙ ap
          (λ (x : Meaning). x.identity) (same_meaning set other given two.meaning n shaped two.read s)),
      (λ same. one.is ∙ each.0 (same one.meaning two.meaning one.read two.read) ∙ sym two.is),
    )

-- ---- the canonical link as a translation

all_kept : (set : TableRows) (keys_only : Bool) (meaning : Meaning) → keys_only ≡ false → kept set keys_only meaning ≡ meaning
all_kept set true meaning e = absurd (cc)
all_kept set false meaning e = refl

spelled_so : (set : TableRows) (prefixes : List PrefixEntry) (options : Options) (form : Form) (text : List ℕ) (answer : Result (List ℕ) Reason)
    → options.keys_only ≡ false → IsTranslation set prefixes options form Canon text answer → IsAnswer set form text answer
spelled_so set prefixes options form text answer all (rejects error read e) = rejects error read e
spelled_so set prefixes options form text answer all (goes_on meaning read e) = goes_on meaning read
    (subst (λ (m : Meaning). answer ≡ Ok (canonical_link m.identity)) (all_kept set options.keys_only meaning all) e)

answered_so : (set : TableRows) (prefixes : List PrefixEntry) (options : Options) (form : Form) (text : List ℕ) (answer : Result (List ℕ) Reason)
    → options.keys_only ≡ false → IsAnswer set form text answer → IsTranslation set prefixes options form Canon text answer
answered_so set prefixes options form text answer all (rejects error read e) = rejects error read e
answered_so set prefixes options form text answer all (goes_on meaning read e) = goes_on meaning read
    (subst (λ (m : Meaning). answer ≡ Ok (canonical_link m.identity)) (sym (all_kept set options.keys_only meaning all)) e)

pub canonical_translation : (set : TableRows) (prefixes : List PrefixEntry) (options : Options) (form : Form) (text : List ℕ) (answer : Result (List ℕ) Reason)
    → options.keys_only ≡ false → IsTranslation set prefixes options form Canon text answer ↔ IsAnswer set form text answer
canonical_translation set prefixes options form text answer all = (spelled_so set prefixes options form text answer all, answered_so set prefixes options form text answer all)
