-- Definitions for proofs and private functions, in addition to Meanings.antt.
use Rattle.std.specs.Prelude.{◌≡◌, ℕ, List, Result, Ok, Err}
use Rattle.std.specs.Result.{result_map_both}
use Rattle.gs_ai.specs.declared.pair.Pair.{Pair}
use Rattle.gs_dlink.specs.Answers.{link_answer}
use Rattle.gs_element.specs.declared.errors.RawFault.{RawFault}
use Rattle.gs_element.specs.declared.errors.RawFault.TheVariants.{Element as WrongElement, Memory as NoMemory}
use Rattle.gs_epc.specs.declared.error.EpcFault.{EpcFault}
use Rattle.gs_epc.specs.declared.error.EpcFault.TheVariants.{Hex, NoReading, Memory as NoRoom}
use Rattle.gs_ident.specs.declared.errors.IdentFault.{IdentFault}
use Rattle.gs_ident.specs.Elements.{Elements}
use Rattle.gs_tables_document.specs.declared.document.LevelName.{LevelName}
use Rattle.gs_tables_document.specs.declared.document.LevelName.TheVariants as level
use Rattle.gs_tables.specs.Tables.{TableRows}
use Rattle.gs_translate.specs.declared.form.Form.{Form}
use Rattle.gs_translate.specs.declared.form.Form.TheVariants as form
use Rattle.gs_translate.specs.declared.reader.Meaning.{Meaning}
use Rattle.gs_translate.specs.declared.reason.Reason.{Reason}
use Rattle.gs_translate.specs.declared.reason.Reason.TheVariants.{Element, Epc as NoEpc, Ident, Memory as OutOfMemory}
use Rattle.gs_translate.specs.Meanings.{identity_meaning, link_reason}
use Rattle.gs_translate.specs.Steps.{reworded}

-- trusted, own: the reason by which a reader of element strings rejects a text
abbrev pub elements_reason : RawFault → Reason
elements_reason (WrongElement error) = Element error
elements_reason NoMemory = OutOfMemory

-- trusted, own: the reason by which a reader of EPCs rejects a text
abbrev pub epc_reason : EpcFault → Reason
epc_reason NoRoom = OutOfMemory
epc_reason (Hex error) = NoEpc (Hex error)
epc_reason NoReading = NoEpc NoReading

-- the form of the texts of a level
abbrev pub form_at : LevelName → Form
form_at level.Binary = form.Hex
form_at level.Tag = form.Tag
form_at level.Pure = form.Pure

-- holds if `answer` is the pairs that a link names, or why it names none
abbrev pub ReadsLink : TableRows → List ℕ → Result (List Pair) Reason → Type 0
ReadsLink set text answer = answer ≡ reworded link_reason (link_answer set.ais text)

-- the meaning of an identity that no EPC names, or the reason
abbrev pub alone : Result Elements Reason → Result Meaning Reason
alone (Ok identity) = Ok (identity_meaning identity)
alone (Err reason) = Err reason

-- the meaning of the identity of pairs, or why they have none
abbrev pub identified : Result Elements IdentFault → Result Meaning Reason
identified made = result_map_both identity_meaning Ident made
