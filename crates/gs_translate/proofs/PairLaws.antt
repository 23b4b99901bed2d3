-- The meaning of element strings and links: one thing, by tables that satisfy their rules.
use Rattle.std.proofs.Common.{◌≡◌, ◌⊎◌, inl, inr, ℕ, List, [], refl, sym, ◌∙◌, ap, arith}
use Rattle.std.specs.Prelude.{◌≢◌, Some, None, Result, Ok, Err, MatchResult}
use Rattle.gs_chars.proofs.TruthsAndLists.{none_behind, none_in_front, map_none as none_mapped}
use Rattle.gs_ai.specs.declared.errors.ElementFault.{ElementFault}
use Rattle.gs_ai.specs.declared.pair.Pair.{Pair}
use Rattle.gs_ai.specs.Tables.{KeepsRules, table_errors}
use Rattle.gs_ai.proofs.RuleLemmas.{rules_kept}
use Rattle.gs_dlink.specs.declared.error.LinkFault.{LinkFault}
use Rattle.gs_dlink.specs.declared.error.LinkFault.TheVariants as link
use Rattle.gs_dlink.specs.Answers.{link_answer, link_error}
use Rattle.gs_tables_document.specs.declared.document.Document.{Document}
use Rattle.gs_tables_document.specs.declared.error.LoadFault.TheVariants.{Ai}
use Rattle.gs_element.specs.declared.errors.RawFault.{RawFault}
use Rattle.gs_element.specs.declared.errors.RawFault.TheVariants.{Element as WrongElement, Memory as NoMemory}
use Rattle.gs_element.specs.BracketedTexts.{IsBracketed, IsBracketedElement, IsBracketedError, bracketed_error}
use Rattle.gs_element.specs.Raw.{IsRaw, IsRawElement, IsRawError, body_of, raw_error}
use Rattle.gs_element.proofs.BodyLemmas.{body_shorter}
use Rattle.gs_element.proofs.BracketLemmas.{bracketed_known}
use Rattle.gs_element.proofs.JoinLemmas.{answered, no_error, one_error, one_list}
use Rattle.gs_element.proofs.RawLemmas.{raw_known}
use Rattle.gs_ident.specs.Elements.{Elements}
use Rattle.gs_ident.specs.Identities.{identity_of_pairs}
use Rattle.gs_tables.specs.Tables.{IsShaped, TableRows, row_rejections}
use Rattle.gs_translate.specs.declared.reason.Reason.{Reason}
use Rattle.gs_translate.specs.declared.reason.Reason.TheVariants.{Element, NoKeyPath, NotHttp}
use Rattle.gs_translate.specs.Meanings.{IsIdentified, OfElement, ReadsBracketed, ReadsRaw, link_reason}
use Rattle.gs_translate.specs.MeaningsSupport.{ReadsLink, elements_reason, identified}
use Rattle.gs_translate.specs.Steps.{Then, UnlessMemory, rejects, reworded}
use Rattle.gs_translate.specs.StepsSupport.{HasOne, HasSome}
use Rattle.gs_translate.proofs.StepLaws.{then_one, then_some}
use Rattle.std.specs.Result.{result_err}

-- ---- the application identifiers of a set satisfy their rules

no_errors : (document : Document) → row_rejections document ≡ [] → table_errors document.ais ≡ []
unfolding row_rejections
no_errors document none = none_mapped Ai (table_errors document.ais) (none_in_front _ _ (none_behind _ _ none))

pub ais_kept : (set : TableRows) → IsShaped set → KeepsRules set.ais
ais_kept set shaped = rw shaped.made (rules_kept shaped.document.ais (no_errors shaped.document shaped.in_order))

-- ---- at most one reading

one_of_two : (Are : List Pair → Type 0) (IsWhy : Reason → Type 0) → HasOne Are → HasOne IsWhy
    → ((pairs : List Pair) (why : Reason) → Are pairs → IsWhy why → ⊥) → HasOne (λ answer. MatchResult answer Are IsWhy)
one_of_two Are IsWhy are why apart (Ok a) (Ok b) j k = ap Ok (are a b j k)
one_of_two Are IsWhy are why apart (Ok a) (Err b) j k = absurd (apart a b j k)
one_of_two Are IsWhy are why apart (Err a) (Ok b) j k = absurd (apart b a k j)
one_of_two Are IsWhy are why apart (Err a) (Err b) j k = ap Err (why a b j k)

one_of_element : (IsError : ElementFault → Type 0) → HasOne IsError → HasOne (OfElement IsError)
one_of_element IsError one a b f g = f.1 ∙ ap Element (one f.0 g.0 f.2 g.2) ∙ sym g.1

module _ (set : TableRows) (text : List ℕ) (rules : KeepsRules set.ais) where
  pub one_raw : HasOne (ReadsRaw set text)
  one_raw =
      let known = raw_known set.ais rules in
      one_of_two (IsRaw set.ais text) (OfElement (IsRawError set.ais text))
      (λ a b j k. one_list (IsRawElement set.ais) (raw_error set.ais) known a b (body_of text) j k)
      (one_of_element (IsRawError set.ais text) (λ a b f g. one_error (IsRawElement set.ais) (raw_error set.ais) known text (body_of text) a b f g))
      (λ pairs why j w. no_error (IsRawElement set.ais) (raw_error set.ais) known pairs text (body_of text) w.0 j w.2)

  pub one_bracketed : HasOne (ReadsBracketed set text)
  one_bracketed =
      let known = bracketed_known set.ais rules in
      one_of_two (IsBracketed set.ais text) (OfElement (IsBracketedError set.ais text))
      (λ a b j k. one_list (IsBracketedElement set.ais) (bracketed_error set.ais) known a b text j k)
      (one_of_element (IsBracketedError set.ais text) (λ a b f g. one_error (IsBracketedElement set.ais) (bracketed_error set.ais) known text text a b f g))
      (λ pairs why j w. no_error (IsBracketedElement set.ais) (bracketed_error set.ais) known pairs text text w.0 j w.2)

pub one_link : (set : TableRows) (text : List ℕ) → HasOne (ReadsLink set text)
one_link set text one other a b = a ∙ sym b

-- ---- a reading

some_of_two : (Are : List Pair → Type 0) (IsError : ElementFault → Type 0) → HasSome Are ⊎ HasSome IsError
    → HasSome (λ answer. MatchResult answer Are (OfElement IsError))
some_of_two Are IsError (inl a) = (Ok a.0, a.1)
some_of_two Are IsError (inr f) = (Err (Element f.0), (f.0, refl, f.1))

module _ (set : TableRows) (text : List ℕ) (rules : KeepsRules set.ais) where
  pub some_raw : HasSome (ReadsRaw set text)
  some_raw = some_of_two (IsRaw set.ais text) (IsRawError set.ais text)
      (answered (IsRawElement set.ais) (raw_error set.ais) (raw_known set.ais rules) text (body_of text) (body_shorter text))

  pub some_bracketed : HasSome (ReadsBracketed set text)
  some_bracketed = some_of_two (IsBracketed set.ais text) (IsBracketedError set.ais text)
      (answered (IsBracketedElement set.ais) (bracketed_error set.ais) (bracketed_known set.ais rules) text text (omega arith))

pub some_link : (set : TableRows) (text : List ℕ) → HasSome (ReadsLink set text)
some_link set text = (reworded link_reason (link_answer set.ais text), refl)

error_said : (said : Result (List Pair) LinkFault) (error : LinkFault) → result_err said ≡ Some error → said ≡ Err error
error_said (Ok pairs) error e = absurd (let f : None ≡ Some error = e in cc)
error_said (Err own) error e = let same : own ≡ error = (let f : Some own ≡ Some error = e in cc) in ap Err same

-- ---- the meaning of pairs

one_identified : (set : TableRows) (pairs : List Pair) → HasOne (IsIdentified set pairs)
one_identified set pairs one other a b = a ∙ sym b

pub one_of_pairs : (set : TableRows) (Reads : Result (List Pair) Reason → Type 0) → HasOne Reads → HasOne (Then Reads (IsIdentified set))
one_of_pairs set Reads one = then_one Reads (IsIdentified set) one (one_identified set)

pub some_of_pairs : (set : TableRows) (Reads : Result (List Pair) Reason → Type 0) → HasSome Reads → HasSome (Then Reads (IsIdentified set))
some_of_pairs set Reads some = then_some Reads (IsIdentified set) some (λ pairs read. (identified (identity_of_pairs set.ais pairs), refl))

-- ---- why none are read

-- a rejection of a reader of element strings is that of the text
pub elements_rejected : (set : TableRows) (Are : List Pair → Type 0) (IsError : ElementFault → Type 0) (Rejects : RawFault → Type 0)
    (error : RawFault) → ((f : ElementFault) → Rejects (WrongElement f) → IsError f) → Rejects error → UnlessMemory {X = Elements}
    (Err (elements_reason error)) (Then (λ answer. MatchResult answer Are (OfElement IsError)) (IsIdentified set) (Err (elements_reason error)))
elements_rejected set Are IsError Rejects (WrongElement error) f r = λ known. rejects (Element error) (error, refl, f error r) refl
elements_rejected set Are IsError Rejects NoMemory f r = λ known. absurd (known refl)

why_said : (set : TableRows) (text : List ℕ) (error : LinkFault) → link_error set.ais text ≡ Some error → ReadsLink set text (Err (link_reason error))
why_said set text error e = ap (reworded link_reason) (sym (error_said (link_answer set.ais text) error e))

-- a rejection of the reader of links is that of the text
pub link_rejected : (set : TableRows) (text : List ℕ) (error : LinkFault) → (error ≢ link.Memory → link_error set.ais text ≡ Some error)
    → UnlessMemory {X = Elements} (Err (link_reason error)) (Then (ReadsLink set text) (IsIdentified set) (Err (link_reason error)))
link_rejected set text link.NotHttp f = λ known. rejects NotHttp (why_said set text link.NotHttp (f (λ e. cc))) refl
link_rejected set text link.NoKeyPath f = λ known. rejects NoKeyPath (why_said set text link.NoKeyPath (f (λ e. cc))) refl
link_rejected set text (link.Element error) f = λ known. rejects (Element error) (why_said set text (link.Element error) (f (λ e. cc))) refl
link_rejected set text link.Memory f = λ known. absurd (known refl)
