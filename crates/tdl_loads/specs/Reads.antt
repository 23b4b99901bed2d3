-- How the reading of a file and the load of tables end, for a run.
use Rattle.std.specs.Prelude.{◌≡◌, ◌≢◌, ℕ, List, Result, Ok, Err}
use Rattle.gs_class.specs.declared.error.ClassLoadFault.{ClassLoadFault}
use Rattle.gs_class.specs.declared.error.ClassLoadFault.TheVariants as class
use Rattle.gs_class.specs.Sets.{ClassRows}
use Rattle.gs_tables_document.specs.declared.error.LoadFault.{LoadFault}
use Rattle.gs_prefix.specs.declared.entry.PrefixEntry.{PrefixEntry}
use Rattle.gs_prefix.specs.declared.error.PrefixFault.{PrefixFault}
use Rattle.gs_prefix.specs.declared.error.PrefixFault.TheVariants as prefix
use Rattle.gs_linktext_grammar.specs.declared.error.LinkTextFault.{LinkTextFault}
use Rattle.gs_linktext_grammar.specs.declared.error.LinkTextFault.TheVariants as text
use Rattle.gs_tables.specs.Shapes.{HasMemory}
use Rattle.gs_tables.specs.Tables.{TableRows}
use Rattle.tdl_messages.specs.declared.file_kind.FileKind.{FileKind}
use Rattle.tdl_messages.specs.declared.file_kind.FileKind.TheVariants as kind
use Rattle.tdl_messages.specs.declared.rejection.FileFault.{FileFault}
use Rattle.tdl_messages.specs.declared.rejection.FileFault.TheVariants.{Classes, LinkText, Prefixes}
use Rattle.tdl_loads.specs.declared.loads.TablesWithSource.{TablesWithSource}
use Rattle.tdl_loads.specs.declared.loads.Unloaded.{Unloaded}
use Rattle.tdl_loads.specs.declared.loads.Unloaded.TheVariants.{Refused, ReadFault, Memory}
use Rattle.tdl_loads.specs.Loads.{of_verdict, rejected, tables_verdict}
use Rattle.gs_translate.specs.Steps.{reworded}

-- holds if this is the answer of a load of tables of a document, with out of memory as no rejection
abbrev pub UnloadedAs : List ℕ → Result TableRows LoadFault → Result TablesWithSource Unloaded → Type 0
UnloadedAs source answer (Ok given) = tables_verdict source answer ≡ Ok given
UnloadedAs source answer (Err Memory) = Unit {0}
UnloadedAs source answer (Err ReadFault) = ⊥
UnloadedAs source answer (Err (Refused rejection)) =
    HasMemory answer × (of_verdict kind.Tables (tables_verdict source answer) ≡ Err (rejected rejection))

-- holds if this is a verdict on a file of a kind, or instead out of memory
abbrev pub JudgedAs : {A : Type 0} → FileKind → Result A FileFault → Result A Unloaded → Type 0
JudgedAs kind verdict (Ok a) = verdict ≡ Ok a
JudgedAs kind verdict (Err Memory) = Unit {0}
JudgedAs kind verdict (Err ReadFault) = ⊥
JudgedAs kind verdict (Err (Refused rejection)) = of_verdict kind verdict ≡ Err (rejected rejection)

-- holds if this is a verdict on a file of a kind by a relation of verdicts, or instead out of memory
abbrev pub JudgedBy : {A : Type 0} → FileKind → (Result A FileFault → Type 0) → Result A Unloaded → Type 0
JudgedBy kind Judges (Ok a) = Judges (Ok a)
JudgedBy kind Judges (Err Memory) = Unit {0}
JudgedBy kind Judges (Err ReadFault) = ⊥
JudgedBy kind Judges (Err (Refused rejection)) = (rejection.kind ≡ kind) × Judges (Err rejection.error)

-- the reason for not loading a file of a kind that is not a linkset as text
abbrev pub unread_text : FileKind → LinkTextFault → Unloaded
unread_text kind text.Memory = Memory
unread_text kind error = Refused (record { kind = kind; error = LinkText error })

-- holds if this is the answer of a load of company prefix lengths, with out of memory as no rejection
abbrev pub PrefixesUnloadedAs : Result (List PrefixEntry) PrefixFault → Result (List PrefixEntry) Unloaded → Type 0
PrefixesUnloadedAs answer (Ok list) = answer ≡ Ok list
PrefixesUnloadedAs answer (Err Memory) = Unit {0}
PrefixesUnloadedAs answer (Err ReadFault) = ⊥
PrefixesUnloadedAs answer (Err (Refused rejection)) =
    (answer ≢ Err prefix.Memory) × (of_verdict kind.Prefixes (reworded Prefixes answer) ≡ Err (rejected rejection))

-- holds if this is the answer of a load of classes, with out of memory as no rejection
abbrev pub ClassesUnloadedAs : Result ClassRows ClassLoadFault → Result ClassRows Unloaded → Type 0
ClassesUnloadedAs answer (Ok set) = answer ≡ Ok set
ClassesUnloadedAs answer (Err Memory) = Unit {0}
ClassesUnloadedAs answer (Err ReadFault) = ⊥
ClassesUnloadedAs answer (Err (Refused rejection)) =
    (answer ≢ Err class.Memory) × (of_verdict kind.Classes (reworded Classes answer) ≡ Err (rejected rejection))
