-- Loads, by how files were read.
use Rattle.std.proofs.Common.{◌≡◌, ℕ, ◌≤◌, false, true, List, [], Option, Some, None, length, refl, sym, ◌∙◌, ap}
use Rattle.std.specs.Prelude.{Bool, Result, Ok, Err, is_some}
use Rattle.gs_tables_document.specs.declared.error.LoadFault.{LoadFault}
use Rattle.gs_tables_document.specs.declared.error.LoadFault.TheVariants.{Memory as OutOfMemory}
use Rattle.gs_port.specs.Files.{IsFile}
use Rattle.gs_tables.specs.Judgements.{IsLoaded}
use Rattle.gs_tables.specs.MigratedSets.{Loads as LoadsTables}
use Rattle.gs_tables.specs.Shapes.{BuiltInAnswer, HasMemory, LoadAnswer, Shape}
use Rattle.gs_tables.specs.Tables.{TableRows}
use Rattle.gs_tables.proofs.JudgedAnswers.{judged_loaded}
use Rattle.gs_tables.proofs.OneAnswer.{RuledRows, ruling_of_builtin, ruling_of_bytes}
use Rattle.gs_translate.specs.Steps.{goes_on, rejects}
use Rattle.tdl_messages.specs.declared.file_kind.FileKind.TheVariants as kind
use Rattle.tdl_messages.specs.declared.rejection.FileFault.{FileFault}
use Rattle.tdl_messages.specs.declared.rejection.FileFault.TheVariants.{Over, Tables}
use Rattle.tdl_messages.specs.Rejections.{file_limit}
use Rattle.tdl_arguments.specs.Requests.{Asked}
use Rattle.tdl_loads.specs.declared.loads.Loaded.{Loaded}
use Rattle.tdl_loads.specs.declared.loads.TablesWithSource.{TablesWithSource}
use Rattle.tdl_loads.specs.declared.loads.Tabled.{Tabled}
use Rattle.tdl_loads.specs.declared.loads.Unloaded.{Unloaded}
use Rattle.tdl_loads.specs.declared.loads.Unloaded.TheVariants as unloaded
use Rattle.tdl_loads.specs.Loads.{FilesGive, JudgesTables, Stop, TablesGive, absent, judged, missing, of_verdict, rejected, tables_verdict, too_large}
use Rattle.tdl_loads.specs.LoadsSupport.{HasSource, LoadedBy, NamesTables, PartsGive, TabledGive}
use Rattle.tdl_loads.specs.Reads.{UnloadedAs}
use Rattle.tdl_loads.proofs.FlatLoads.{flat_parts}

-- ---- the tables of a file

-- tables that were judged are loaded, or rejected, or memory ran out
known_tables : (Give : Result TablesWithSource Stop → Type 0) (errored : Bool) (source : List ℕ) (answer : Result TableRows LoadFault) (result : Result TablesWithSource Unloaded)
    → UnloadedAs source answer result → (HasMemory answer → Give (of_verdict kind.Tables (tables_verdict source answer)))
    → LoadedBy Give errored result
known_tables Give errored source answer (Ok given) u give =
    let enough : HasMemory answer = λ none. let f : Err (Tables OutOfMemory) ≡ Ok given = sym (ap (tables_verdict source) none) ∙ u in cc in
    let g = give enough in
    rw u at g
known_tables Give errored source answer (Err unloaded.Memory) u give = tt
known_tables Give errored source answer (Err unloaded.ReadFault) u give = absurd u
known_tables Give errored source answer (Err (unloaded.Refused rejection)) u give = let g = give u.0 in rw u.1 at g

pub file_loaded : (files : Option (List (List ℕ × List ℕ))) (name bytes : List ℕ) (errored : Bool) (answer : Result TableRows LoadFault) (result : Result TablesWithSource Unloaded)
    → IsFile files name bytes → length bytes ≤ file_limit kind.Tables → LoadAnswer bytes answer → UnloadedAs bytes answer result
    → LoadedBy (TablesGive files (Some name)) errored result
file_loaded files name bytes errored answer result is few load u =
    known_tables (TablesGive files (Some name)) errored bytes answer result u
    (λ enough. judged bytes (tables_verdict bytes answer) is few (record { answer = answer; enough = enough; is_answer = load; is = refl }) refl)

pub own_loaded : (files : Option (List (List ℕ × List ℕ))) (errored : Bool) (answer : Result TableRows LoadFault) (result : Result TablesWithSource Unloaded)
    → BuiltInAnswer answer → UnloadedAs [] answer result → LoadedBy (TablesGive files None) errored result
own_loaded files errored answer result load u =
    known_tables (TablesGive files None) errored [] answer result u
    (λ enough. record { verdict = tables_verdict [] answer; judged = record { answer = answer; enough = enough; is_answer = load; is = refl }; is = refl })

-- ---- tables that are loaded have an answer of their load, and so has their document, which is that of the named file

given_by : (source : List ℕ) (Answer : Result TableRows LoadFault → Type 0) (verdict : Result TablesWithSource FileFault) (given : TablesWithSource)
    → JudgesTables source Answer verdict → Ok given ≡ of_verdict kind.Tables verdict → Answer (Ok given.tables) × (given.source ≡ source)
given_by source Answer verdict given j e = by j.answer j.is_answer (e ∙ ap (of_verdict kind.Tables) j.is)
  where
    by : (answer : Result TableRows LoadFault) → Answer answer → Ok given ≡ of_verdict kind.Tables (tables_verdict source answer)
        → Answer (Ok given.tables) × (given.source ≡ source)
    by (Ok set) a f = let same : given ≡ record { tables = set; source = source } = cc in rw same (a, refl)
    by (Err error) a f = absurd (let g : Ok given ≡ Err (rejected (record { kind = kind.Tables; error = Tables error })) = f in cc)

given_file : (files : Option (List (List ℕ × List ℕ))) (name : List ℕ) (given : TablesWithSource) → TablesGive files (Some name) (Ok given)
    → LoadAnswer given.source (Ok given.tables)
given_file files name given (absent none e) = absurd (let f : Ok given ≡ Err (missing kind.Tables) = e in cc)
given_file files name given (too_large bytes is more e) = absurd (let f : Ok given ≡ Err (rejected (record { kind = kind.Tables; error = Over })) = e in cc)
given_file files name given (judged bytes verdict is few j e) =
    let both = given_by bytes (LoadAnswer bytes) verdict given j e in
    rw both.1 both.0

-- ---- loaded tables satisfy the rules, and none of their levels is ambiguous

loaded_named : (files : Option (List (List ℕ × List ℕ))) (name : Option (List ℕ)) (given : TablesWithSource)
    → TablesGive files name (Ok given) → IsLoaded given.tables
loaded_named files None given gives = judged_loaded RuledRows ruling_of_builtin given.tables
    (given_by [] BuiltInAnswer gives.verdict given gives.judged gives.is).0
loaded_named files (Some name) given gives = judged_loaded (Shape given.source) (ruling_of_bytes given.source) given.tables (given_file files name given gives)

-- ---- the tables of a load

-- the load has the tables, with their document, that files give
record HasTables (files : Option (List (List ℕ × List ℕ))) (asked : Asked) (loaded : Loaded) : Type 0 where
  given : TablesWithSource
  gives : TablesGive files asked.files.tables (Ok given)
  same_tables : loaded.tables ≡ given.tables
  same_source : loaded.source ≡ given.source

tables_of_tabled : (files : Option (List (List ℕ × List ℕ))) (asked : Asked) (tabled : Tabled) (loaded : Loaded)
    → loaded.tables ≡ tabled.tables → loaded.source ≡ tabled.source → TabledGive files asked.files (Ok tabled)
    → HasTables files asked loaded
tables_of_tabled files asked tabled loaded tables source (rejects stop gives e) = absurd (let f : Ok tabled ≡ Err stop = e in cc)
tables_of_tabled files asked tabled loaded tables source (goes_on given gives (rejects stop g e)) = absurd (let f : Ok tabled ≡ Err stop = e in cc)
tables_of_tabled files asked tabled loaded tables source (goes_on given gives (goes_on list g e)) =
    let same : tabled ≡ record { tables = given.tables; source = given.source; prefixes = list } = cc in
    record { given = given; gives = gives; same_tables = tables ∙ ap (λ (t : Tabled). t.tables) same; same_source = source ∙ ap (λ (t : Tabled). t.source) same }

tables_of_parts : (files : Option (List (List ℕ × List ℕ))) (asked : Asked) (loaded : Loaded) → PartsGive files asked (Ok loaded) → HasTables files asked loaded
tables_of_parts files asked loaded (rejects stop gives e) = absurd (let f : Ok loaded ≡ Err stop = e in cc)
tables_of_parts files asked loaded (goes_on tabled gives (rejects stop g e)) = absurd (let f : Ok loaded ≡ Err stop = e in cc)
tables_of_parts files asked loaded (goes_on tabled gives (goes_on linked g (rejects stop h e))) = absurd (let f : Ok loaded ≡ Err stop = e in cc)
tables_of_parts files asked loaded (goes_on tabled gives (goes_on linked g (goes_on settings h (rejects stop k e)))) = absurd
    (let f : Ok loaded ≡ Err stop = e in cc)
tables_of_parts files asked loaded (goes_on tabled gives (goes_on linked g (goes_on settings h (goes_on classes k e)))) =
    let same : loaded ≡ record { tables = tabled.tables; source = tabled.source; prefixes = tabled.prefixes; links = linked.links; merged = linked.merged; settings = settings; classes = classes } = cc in
    tables_of_tabled files asked tabled loaded (ap (λ (l : Loaded). l.tables) same) (ap (λ (l : Loaded). l.source) same) gives

tables_of : (files : Option (List (List ℕ × List ℕ))) (asked : Asked) (loaded : Loaded) → FilesGive files asked (Ok loaded) → HasTables files asked loaded
tables_of files asked loaded gives = tables_of_parts files asked loaded (flat_parts files asked (Ok loaded) gives)

pub loaded_of : (files : Option (List (List ℕ × List ℕ))) (asked : Asked) (loaded : Loaded) → FilesGive files asked (Ok loaded) → IsLoaded loaded.tables
loaded_of files asked loaded gives =
    let t = tables_of files asked loaded gives in
    rw t.same_tables (loaded_named files asked.files.tables t.given t.gives)

-- tables of a named file load from their document
named_loads : (files : Option (List (List ℕ × List ℕ))) (name : Option (List ℕ)) (given : TablesWithSource) → is_some name ≡ true
    → TablesGive files name (Ok given) → LoadsTables given.source
named_loads files None given named gives = absurd (let f : false ≡ true = named in cc)
named_loads files (Some name) given named gives = (given.tables, given_file files name given gives)

pub source_of : (files : Option (List (List ℕ × List ℕ))) (asked : Asked) (loaded : Loaded) → NamesTables asked
    → FilesGive files asked (Ok loaded) → HasSource asked.command loaded
source_of files asked loaded names gives migrates =
    let t = tables_of files asked loaded gives in
    rw t.same_source (named_loads files asked.files.tables t.given (names migrates) t.gives)
