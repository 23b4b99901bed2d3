-- Definitions for proofs and private functions, in addition to Targets.antt.
use Rattle.gs_epc.specs.declared.error.FieldsFault.{FieldsFault}
use Rattle.gs_epc.specs.declared.error.FieldsFault.TheVariants.{MissingSerial, Memory as NoMemory}
use Rattle.gs_translate.specs.declared.form.FieldName.TheVariants.{Serial}
use Rattle.gs_translate.specs.declared.reason.Reason.{Reason}
use Rattle.gs_translate.specs.declared.reason.Reason.TheVariants.{Missing, Memory}

-- trusted, own: the reason by which an identity is not taken apart
abbrev pub fields_reason : FieldsFault → Reason
fields_reason MissingSerial = Missing Serial
fields_reason NoMemory = Memory
