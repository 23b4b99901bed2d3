-- The meaning of a text of a form: TDS 2.0, sections 6 and 12 (URIs), 14 (tag bits) and 7 (keys). GS1 General Specifications,
-- sections 7.8 and 4 (element strings); GS1 Digital Link URI Syntax, section 3 (links).
use Rattle.std.specs.Prelude.{◌≡◌, ℕ, ◌<◌, ◌≤◌, List, [], length, Some, None, Result, Ok, Err, MatchResult}
use Rattle.std.specs.Result.{result_map_both}
use Rattle.gs_chars.specs.Limits.{longest_text}
use Rattle.gs_ai.specs.declared.errors.ElementFault.{ElementFault}
use Rattle.gs_ai.specs.declared.pair.Pair.{Pair}
use Rattle.gs_tables_document.specs.declared.document.LevelName.TheVariants as level
use Rattle.gs_dlink.specs.declared.error.LinkFault.{LinkFault}
use Rattle.gs_dlink.specs.declared.error.LinkFault.TheVariants as link
use Rattle.gs_dlink.specs.Answers.{link_answer}
use Rattle.gs_element.specs.BracketedTexts.{IsBracketed, IsBracketedError}
use Rattle.gs_element.specs.Raw.{IsRaw, IsRawError}
use Rattle.gs_epc.specs.declared.epc.Epc.{Epc}
use Rattle.gs_epc.specs.declared.error.EpcFault.TheVariants.{Memory}
use Rattle.gs_epc.specs.Layout.{IsLaidOut}
use Rattle.gs_epc.specs.Readings.{ReadsAs, ReadsHex}
use Rattle.gs_ident.specs.Elements.{Elements}
use Rattle.gs_ident.specs.Identities.{identity_of_pairs}
use Rattle.gs_tables.specs.Tables.{TableRows}
use Rattle.gs_translate.specs.declared.form.Form.{Form}
use Rattle.gs_translate.specs.declared.form.Form.TheVariants.{Hex, Tag, Pure, Raw, Bracketed, Link}
use Rattle.gs_translate.specs.declared.reader.Meaning.{Meaning}
use Rattle.gs_translate.specs.declared.reason.Reason.{Reason}
use Rattle.gs_translate.specs.declared.reason.Reason.TheVariants.{Epc as NoEpc, Element, Ident, Long, NoKeyPath, NotHttp, Memory as OutOfMemory}
use Rattle.gs_translate.specs.Steps.{Reworded, Then, reworded}

-- ---- the contents of a tag or an EPC URI

-- trusted, own: the meaning of an EPC that names these elements
abbrev pub epc_meaning : Epc → Elements → Meaning
epc_meaning epc elements =
    record { identity = elements; gcp = Some epc.gcp; filter = epc.filter; encoding = epc.encoding }

-- trusted, own: holds if `answer` is the meaning of `epc`, which names the elements that its key is laid out by
abbrev pub MeansEpc : TableRows → Epc → Result Meaning Reason → Type 0
MeansEpc set epc answer = (elements : Elements) × IsLaidOut set epc elements × (answer ≡ Ok (epc_meaning epc elements))

-- ---- of pairs

-- trusted, own: holds if `reason` is an error of an element, for which `IsError` holds
abbrev pub OfElement : (ElementFault → Type 0) → Reason → Type 0
OfElement IsError reason = (error : ElementFault) × (reason ≡ Element error) × IsError error

-- trusted, own: holds if `answer` is the pairs of `text`, an element string that a barcode scanner transmits, or why it has
-- none
abbrev pub ReadsRaw : TableRows → List ℕ → Result (List Pair) Reason → Type 0
ReadsRaw set text answer = MatchResult answer (IsRaw set.ais text) (OfElement (IsRawError set.ais text))

-- trusted, own: holds if `answer` is the pairs of the bracketed element string `text` (human readable interpretation), or why
-- it has none
abbrev pub ReadsBracketed : TableRows → List ℕ → Result (List Pair) Reason → Type 0
ReadsBracketed set text answer =
    MatchResult answer (IsBracketed set.ais text) (OfElement (IsBracketedError set.ais text))

-- trusted, own: the reason by which the reader of links rejects a text
abbrev pub link_reason : LinkFault → Reason
link_reason link.NotHttp = NotHttp
link_reason link.NoKeyPath = NoKeyPath
link_reason (link.Element error) = Element error
link_reason link.Memory = OutOfMemory

-- trusted, own: the meaning of an identity that no EPC names: there is neither a prefix length nor a filter value nor an
-- encoding
abbrev pub identity_meaning : Elements → Meaning
identity_meaning identity = record { identity = identity; gcp = None; filter = None; encoding = [] }

-- trusted, own: holds if `answer` is the meaning of the identity of `pairs`, or why they have none
abbrev pub IsIdentified : TableRows → List Pair → Result Meaning Reason → Type 0
IsIdentified set pairs answer = answer ≡ result_map_both identity_meaning Ident (identity_of_pairs set.ais pairs)

-- ---- of a text

-- trusted, TDS 2.0, sections 6, 7, 12 and 14; GS1 General Specifications, sections 4 and 7.8; GS1 Digital Link URI Syntax,
-- section 3: holds if `answer` is the meaning of `text` in a form, or why it has none
abbrev pub Means : TableRows → Form → List ℕ → Result Meaning Reason → Type 0
Means set Hex text answer = Then (Reworded Memory NoEpc (ReadsHex set text)) (MeansEpc set) answer
Means set Tag text answer = Then (Reworded Memory NoEpc (ReadsAs set level.Tag text)) (MeansEpc set) answer
Means set Pure text answer = Then (Reworded Memory NoEpc (ReadsAs set level.Pure text)) (MeansEpc set) answer
Means set Raw text answer = Then (ReadsRaw set text) (IsIdentified set) answer
Means set Bracketed text answer = Then (ReadsBracketed set text) (IsIdentified set) answer
Means set Link text answer = Then (λ pairs. pairs ≡ reworded link_reason (link_answer set.ais text)) (IsIdentified set) answer

-- trusted, own: holds if `text` has more than 2,048 bytes and is rejected as long, or at most that many and `Short` holds
pub data AfterLong {A : Type 0} (Short : List ℕ → Result A Reason → Type 0) (text : List ℕ) (answer : Result A Reason)
    : Type 0 where
  too_long : longest_text < length text → answer ≡ Err Long → AfterLong Short text answer
  short : length text ≤ longest_text → Short text answer → AfterLong Short text answer

-- trusted, own: Holds if `answer` is the meaning of `text`, or why it has none. A long text is rejected as long.
abbrev pub IsRead : TableRows → Form → List ℕ → Result Meaning Reason → Type 0
IsRead set form text answer = AfterLong (Means set form) text answer
