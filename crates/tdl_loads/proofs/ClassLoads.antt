-- The loaded classes: they belong to the table, and no text has two readings by them; and how their file was read.
use Rattle.std.proofs.Common.{◌≡◌, ℕ, ◌≤◌, ◌==◌, Bool, true, false, not, List, [], ◌∷◌, ◌++◌, map, Option, Some, None, length, refl, sym, ◌∙◌, ap, inl, inr}
use Rattle.std.specs.Prelude.{Result, Ok, Err, codes}
use Rattle.std.specs.Option.{option_map_or}
use Rattle.serde_json.specs.Data.{Data}
use Rattle.gs_chars.specs.Answers.{error_if, first_or}
use Rattle.gs_chars.proofs.TruthsAndLists.{nil_parts}
use Rattle.gs_ai.specs.declared.row.AiRow.{AiRow}
use Rattle.gs_class.specs.declared.error.ClassLoadFault.{ClassLoadFault}
use Rattle.gs_class.specs.declared.error.ClassLoadFault.TheVariants as class
use Rattle.gs_class.specs.declared.error.ClassLoadFault.TheVariants.{Json, Version}
use Rattle.gs_class.specs.Answers.{BuiltInAnswer, Judged, LoadAnswer, OrMemory, ruled_bytes, ruled_document, ruled_rows}
use Rattle.gs_class.specs.BuiltIn.{built_in_rows}
use Rattle.gs_class.specs.Sets.{ClassRows, IsOfTable, set_of}
use Rattle.gs_class.specs.Documents.{form_errors, rows_of}
use Rattle.gs_class.specs.Rules.{class_rejections}
use Rattle.gs_class.proofs.SetParts.{none_of_table}
use Rattle.gs_json.specs.Members.{document_of, number_in}
use Rattle.gs_json.specs.declared.error.JsonFault.TheVariants.{Syntax}
use Rattle.gs_port.specs.Files.{IsFile, FilesHeld}
use Rattle.gs_translate.specs.Steps.{goes_on, rejects, reworded}
use Rattle.tdl_arguments.specs.declared.command.Command.{Command}
use Rattle.tdl_arguments.specs.Requests.{Asked}
use Rattle.tdl_messages.specs.declared.file_kind.FileKind.TheVariants as kind
use Rattle.tdl_messages.specs.declared.rejection.FileFault.{FileFault}
use Rattle.tdl_messages.specs.declared.rejection.FileFault.TheVariants.{Over, Classes}
use Rattle.tdl_messages.specs.Rejections.{file_limit}
use Rattle.tdl_loads.specs.declared.loads.Loaded.{Loaded}
use Rattle.tdl_loads.specs.declared.loads.Unloaded.{Unloaded}
use Rattle.tdl_loads.specs.declared.loads.Unloaded.TheVariants as unloaded
use Rattle.tdl_loads.specs.Loads.{ClassesGive, FilesGive, JudgesClasses, StandsFor, Stop, UnnamedClasses, absent, is_of_classes, judged, missing, of_verdict, rejected, too_large}
use Rattle.tdl_loads.specs.LoadsSupport.{AreKept, AreUnnamedClasses, LoadedBy, PartsGive}
use Rattle.tdl_loads.specs.Reads.{ClassesUnloadedAs}
use Rattle.tdl_loads.proofs.FlatLoads.{flat_parts}

-- ---- sets that the rules make are of the table

set_made : {F R S : Type 0} (make : R → S) (rejections : List F) (rows : R) (set : S) → first_or rejections (make rows) ≡ Ok set
    → (rejections ≡ []) × (set ≡ make rows)
set_made make [] rows set h = (refl, let e : Ok (make rows) ≡ Ok set = h in let f : make rows ≡ set = cc in sym f)
set_made make (f ∷ rejections) rows set h = absurd (let e : Err f ≡ Ok set = h in cc)

of_table_built_in : (ais : List AiRow) (set : ClassRows) → ruled_rows ais built_in_rows ≡ Ok set → IsOfTable ais set
of_table_built_in ais set h =
    let made = set_made set_of (class_rejections ais built_in_rows) built_in_rows set h in record { rows = built_in_rows; in_order = made.0; made = made.1 }

of_table_document : (ais : List AiRow) (d : Data) (set : ClassRows) → ruled_document ais d ≡ Ok set → IsOfTable ais set
unfolding ruled_document
of_table_document ais d set h =
    let version = error_if (not (number_in (codes "version") d == 1)) Version in
    let made = set_made set_of (map Json (form_errors d) ++ (version ++ class_rejections ais (rows_of d))) (rows_of d) set h in
    let behind = (nil_parts (map Json (form_errors d)) (version ++ class_rejections ais (rows_of d)) made.0).1 in
    record { rows = rows_of d; in_order = (nil_parts version (class_rejections ais (rows_of d)) behind).1; made = made.1 }

of_table_bytes : (ais : List AiRow) (bytes : List ℕ) (set : ClassRows) → ruled_bytes ais bytes ≡ Ok set → IsOfTable ais set
unfolding ruled_bytes
of_table_bytes ais bytes set h = by (document_of bytes) h
  where
    by : (found : Option Data) → option_map_or (ruled_document ais) found (Err (Json Syntax)) ≡ Ok set → IsOfTable ais set
    by None h = absurd (let e : Err (Json Syntax) ≡ Ok set = h in cc)
    by (Some d) h = of_table_document ais d set h

-- ---- classes that are loaded

kept_of : (ais : List AiRow) (ruled : Result ClassRows ClassLoadFault) → ((made : ClassRows) → ruled ≡ Ok made → IsOfTable ais made)
    → (set : ClassRows) → Judged ruled (Ok set) → AreKept ais set
kept_of ais (Err error) of set j = absurd (let f : Ok set ≡ Err error = j in cc)
kept_of ais (Ok made) of set j = rw j.0 (record { of_table = of made refl; clear = j.1 })

none_kept : (ais : List AiRow) → AreKept ais (set_of [])
none_kept ais = record {
  of_table = none_of_table (record { bit_level = false; options = [] }) [] refl refl refl ais;
  clear = λ a. let e = a.two.one.of_level in absurd cc;
}

judged_kept : (ais : List AiRow) (Answer : Result ClassRows ClassLoadFault → Type 0) (verdict : Result ClassRows FileFault) (set : ClassRows)
    → ((set : ClassRows) → Answer (Ok set) → AreKept ais set) → JudgesClasses Answer verdict → Ok set ≡ of_verdict kind.Classes verdict
    → AreKept ais set
judged_kept ais Answer verdict set kept j e = by j.answer j.is_answer (e ∙ ap (of_verdict kind.Classes) j.is)
  where
    by : (answer : Result ClassRows ClassLoadFault) → Answer answer → Ok set ≡ of_verdict kind.Classes (reworded Classes answer) → AreKept ais set
    by (Ok other) a f = let same : set ≡ other = cc in rw same (kept other a)
    by (Err error) a f = absurd (let g : Ok set ≡ Err (rejected (record { kind = kind.Classes; error = Classes error })) = f in cc)

unnamed_kept : (ais : List AiRow) (of_classes : Bool) (verdict : Result ClassRows FileFault) (set : ClassRows)
    → UnnamedClasses ais of_classes verdict → Ok set ≡ of_verdict kind.Classes verdict → AreKept ais set
unnamed_kept ais true verdict set u e = judged_kept ais (BuiltInAnswer ais) verdict set (kept_of ais (ruled_rows ais built_in_rows) (of_table_built_in ais)) u e
unnamed_kept ais false verdict set u e =
    let f : Ok set ≡ Ok (set_of []) = e ∙ ap (of_verdict kind.Classes) u in
    let same : set ≡ set_of [] = cc in
    rw same (none_kept ais)

file_kept : (files : Option FilesHeld) (ais : List AiRow) (command : Command) (name : List ℕ) (set : ClassRows)
    → ClassesGive files ais command (Some name) (Ok set) → AreKept ais set
file_kept files ais command name set (absent none e) = absurd (let f : Ok set ≡ Err (missing kind.Classes) = e in cc)
file_kept files ais command name set (too_large bytes is more e) = absurd
    (let f : Ok set ≡ Err (rejected (record { kind = kind.Classes; error = Over })) = e in cc)
file_kept files ais command name set (judged bytes verdict is few j e) = judged_kept ais (LoadAnswer ais bytes) verdict set
    (kept_of ais (ruled_bytes ais bytes) (of_table_bytes ais bytes)) j e

given_kept : (files : Option FilesHeld) (ais : List AiRow) (command : Command) (name : Option (List ℕ)) (set : ClassRows)
    → ClassesGive files ais command name (Ok set) → AreKept ais set
given_kept files ais command None set gives = unnamed_kept ais (is_of_classes command) gives.verdict set gives.judged gives.is
given_kept files ais command (Some name) set gives = file_kept files ais command name set gives

parts_kept : (files : Option FilesHeld) (asked : Asked) (loaded : Loaded) → PartsGive files asked (Ok loaded) → AreKept loaded.tables.ais loaded.classes
parts_kept files asked loaded (rejects stop gives e) = absurd (let f : Ok loaded ≡ Err stop = e in cc)
parts_kept files asked loaded (goes_on tabled gives (rejects stop g e)) = absurd (let f : Ok loaded ≡ Err stop = e in cc)
parts_kept files asked loaded (goes_on tabled gives (goes_on linked g (rejects stop h e))) = absurd (let f : Ok loaded ≡ Err stop = e in cc)
parts_kept files asked loaded (goes_on tabled gives (goes_on linked g (goes_on settings h (rejects stop k e)))) = absurd
    (let f : Ok loaded ≡ Err stop = e in cc)
parts_kept files asked loaded (goes_on tabled gives (goes_on linked g (goes_on settings h (goes_on classes k e)))) =
    let same : loaded ≡ record { tables = tabled.tables; source = tabled.source; prefixes = tabled.prefixes; links = linked.links; merged = linked.merged; settings = settings; classes = classes } = cc in
    rw same (given_kept files tabled.tables.ais asked.command asked.files.classes classes k)

pub classes_kept : (files : Option FilesHeld) (asked : Asked) (loaded : Loaded) → FilesGive files asked (Ok loaded)
    → AreKept loaded.tables.ais loaded.classes
classes_kept files asked loaded gives = parts_kept files asked loaded (flat_parts files asked (Ok loaded) gives)

-- ---- how classes were loaded

-- classes that were judged are loaded, or rejected, or memory ran out
known_classes : (Give : Result ClassRows Stop → Type 0) (errored : Bool) (answer : Result ClassRows ClassLoadFault) (result : Result ClassRows Unloaded) (Answer : Result ClassRows ClassLoadFault → Type 0)
    → OrMemory Answer answer → ClassesUnloadedAs answer result → (Answer answer → Give (of_verdict kind.Classes (reworded Classes answer)))
    → LoadedBy Give errored result
known_classes Give errored answer (Ok set) Answer (inl none) u give = absurd (let f : Ok set ≡ Err class.Memory = sym u ∙ none in cc)
known_classes Give errored answer (Ok set) Answer (inr is) u give = let g = give is in rw u at g
known_classes Give errored answer (Err unloaded.Memory) Answer o u give = tt
known_classes Give errored answer (Err unloaded.ReadFault) Answer o u give = absurd u
known_classes Give errored answer (Err (unloaded.Refused rejection)) Answer (inl none) u give = absurd (u.0 none)
known_classes Give errored answer (Err (unloaded.Refused rejection)) Answer (inr is) u give = let g = give is in rw u.1 at g

pub file_loaded : (files : Option FilesHeld) (ais : List AiRow) (command : Command) (name bytes : List ℕ) (errored : Bool) (answer : Result ClassRows ClassLoadFault) (result : Result ClassRows Unloaded)
    → IsFile files name bytes → length bytes ≤ file_limit kind.Classes → OrMemory (LoadAnswer ais bytes) answer
    → ClassesUnloadedAs answer result → LoadedBy (ClassesGive files ais command (Some name)) errored result
file_loaded files ais command name bytes errored answer result is few load u =
    known_classes (ClassesGive files ais command (Some name)) errored answer result (LoadAnswer ais bytes) load u
    (λ a. judged bytes (reworded Classes answer) is few (record { answer = answer; is_answer = a; is = refl }) refl)

pub built_in_loaded : (ais : List AiRow) (command : Command) (answer : Result ClassRows ClassLoadFault) (result : Result ClassRows Unloaded)
    → is_of_classes command ≡ true → OrMemory (BuiltInAnswer ais) answer → ClassesUnloadedAs answer result
    → AreUnnamedClasses ais command result
built_in_loaded ais command answer result of load u = λ errored. rw of
    (known_classes (StandsFor kind.Classes (UnnamedClasses ais true)) errored answer result (BuiltInAnswer ais) load u
    (λ a. record { verdict = reworded Classes answer; judged = record { answer = answer; is_answer = a; is = refl }; is = refl }))

pub none_loaded : (ais : List AiRow) (command : Command) (set : ClassRows) → is_of_classes command ≡ false → set ≡ set_of []
    → AreUnnamedClasses ais command (Ok set)
none_loaded ais command set not none = λ errored. rw not (record { verdict = Ok (set_of []); judged = refl; is = ap Ok none })
