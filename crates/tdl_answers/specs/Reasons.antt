-- The reasons of lines by the errors of class URIs and of dumps.
use Rattle.gs_class.specs.declared.error.ClassFault.{ClassFault}
use Rattle.gs_class.specs.declared.error.ClassFault.TheVariants as class
use Rattle.gs_class.specs.declared.error.ClassWriteFault.{ClassWriteFault}
use Rattle.gs_class.specs.declared.error.ClassWriteFault.TheVariants as class_write
use Rattle.gs_epc.specs.declared.error.EpcFault.TheVariants as epc
use Rattle.gs_membank.specs.declared.error.DumpFault.{DumpFault}
use Rattle.gs_membank.specs.declared.error.DumpFault.TheVariants as dump
use Rattle.gs_membank.specs.declared.error.DumpLineFault.{DumpLineFault}
use Rattle.gs_membank.specs.declared.error.DumpLineFault.TheVariants as line
use Rattle.gs_membank.specs.declared.error.DumpWriteFault.{DumpWriteFault}
use Rattle.gs_membank.specs.declared.error.DumpWriteFault.TheVariants as dump_write
use Rattle.gs_tables_document.specs.declared.document.Field.TheVariants.{Serial}
use Rattle.gs_translate.specs.declared.form.FieldName.TheVariants.{Gcp}
use Rattle.gs_translate.specs.declared.reason.Reason.{Reason}
use Rattle.gs_translate.specs.declared.reason.Reason.TheVariants as reason

-- trusted, own: the reason why a text is not a class URI
abbrev pub class_reason : ClassFault → Reason
class_reason class.NoReading = reason.Epc epc.NoReading
class_reason class.Memory = reason.Memory

-- trusted, own: the reason why an identity is not written as a class URI
abbrev pub class_write_reason : ClassWriteFault → Reason
class_write_reason class_write.NoClass = reason.NoClass
class_write_reason class_write.MissingElement = reason.MissingElement
class_write_reason (class_write.Extra code) = reason.Extra code
class_write_reason class_write.MissingGcp = reason.Missing Gcp
class_write_reason class_write.NoOption = reason.NoOption
class_write_reason (class_write.CannotHold why) = reason.CannotHold Serial why
class_write_reason class_write.Memory = reason.Memory

-- trusted, own: the reason why a text is not a dump
abbrev pub dump_reason : DumpFault → Reason
dump_reason (dump.Hex error) = reason.Epc (epc.Hex error)
dump_reason dump.NoWord = reason.NoWord
dump_reason dump.Extended = reason.Extended
dump_reason dump.Toggle = reason.Toggle
dump_reason (dump.Words said bits) = reason.Words said bits
dump_reason dump.NoReading = reason.Epc epc.NoReading
dump_reason dump.Memory = reason.Memory

-- trusted, own: the reason why a dump is not written or shown
abbrev pub dump_write_reason : DumpWriteFault → Reason
dump_write_reason dump_write.NoOption = reason.NoOption
dump_write_reason (dump_write.CannotHold field why) = reason.CannotHold field why
dump_write_reason dump_write.TooLong = reason.TooLong
dump_write_reason dump_write.Memory = reason.Memory

-- trusted, own: the reason why a line does not show a dump
abbrev pub dump_line_reason : DumpLineFault → Reason
dump_line_reason line.Line = reason.Line
dump_line_reason line.NoReading = reason.Epc epc.NoReading
dump_line_reason line.Memory = reason.Memory
