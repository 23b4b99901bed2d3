-- Definitions next to those of Loads.antt, for proofs and private functions.
use Rattle.std.specs.Prelude.{◌≡◌, ◌⊎◌, ℕ, Bool, false, true, List, [], ◌++◌, Option, Some, None, is_some, option_to_list, Result, Ok, Err}
use Rattle.gs_ai.specs.declared.row.AiRow.{AiRow}
use Rattle.gs_class.specs.Sets.{ClassRows, IsClear, IsOfTable}
use Rattle.gs_http.specs.declared.resolver.Settings.{Settings}
use Rattle.gs_links.specs.declared.link.Link.{Link}
use Rattle.gs_linkset.specs.declared.link_types.Context.{Context}
use Rattle.gs_linkset.specs.Answers.{read_answer}
use Rattle.gs_port.specs.Counts.{count_if}
use Rattle.gs_port.specs.Files.{FilesHeld}
use Rattle.gs_port.specs.States.{FilesState}
use Rattle.gs_prefix.specs.Answers.{load_answer}
use Rattle.gs_prefix.specs.declared.entry.PrefixEntry.{PrefixEntry}
use Rattle.gs_tables.specs.MigratedSets.{Loads as LoadsTables}
use Rattle.gs_translate.specs.Steps.{Then, reworded}
use Rattle.tdl_arguments.specs.declared.command.Command.{Command}
use Rattle.tdl_arguments.specs.declared.command.Command.TheVariants.{Migrate}
use Rattle.tdl_arguments.specs.Requests.{Asked, FileNames, Values, classes_named, description_named, first_named, links_named, others_named}
use Rattle.tdl_messages.specs.declared.file_kind.FileKind.{FileKind}
use Rattle.tdl_messages.specs.declared.file_kind.FileKind.TheVariants as kind
use Rattle.tdl_messages.specs.declared.rejection.FileFault.{FileFault}
use Rattle.tdl_messages.specs.declared.rejection.Rejection.{Rejection}
use Rattle.tdl_loads.specs.declared.loads.Linked.{Linked}
use Rattle.tdl_loads.specs.declared.loads.Loaded.{Loaded}
use Rattle.tdl_loads.specs.declared.loads.Tabled.{Tabled}
use Rattle.tdl_loads.specs.declared.loads.TablesWithSource.{TablesWithSource}
use Rattle.tdl_loads.specs.declared.loads.Unloaded.{Unloaded}
use Rattle.tdl_loads.specs.declared.loads.Unloaded.TheVariants.{Refused, ReadFault, Memory}
use Rattle.tdl_loads.specs.Loads.{BytesGive, ClassesGive, LinksGive, Opens, OpensFirst, OtherGives, PrefixesGive, StandsFor, Stop, TablesGive, UnnamedClasses, is_of_classes, kind_of, links_verdict, merging, missing, of_verdict, other_verdict, rejected}
use Rattle.tdl_messages.specs.declared.rejection.FileFault.TheVariants.{Prefixes}

-- ---- the results of the files, part by part: tables and prefixes, links, settings, classes

-- holds if the verdict is that on a list of company prefix lengths
abbrev pub JudgesPrefixes : List ℕ → Result (List PrefixEntry) FileFault → Type 0
JudgesPrefixes bytes verdict = verdict ≡ reworded Prefixes (load_answer bytes)

-- holds if the list has no entry
abbrev pub IsNoPrefix : Result (List PrefixEntry) FileFault → Type 0
IsNoPrefix verdict = verdict ≡ Ok []

-- holds if the store has no link
abbrev pub IsNoLink : Result (List Link) FileFault → Type 0
IsNoLink verdict = verdict ≡ Ok []

-- holds if this is the verdict on links that are merged with others, by their bytes in JSON
abbrev pub JudgesOther : List AiRow → List ℕ → List ℕ → Result (Option (List Link)) FileFault → Type 0
JudgesOther ais voc bytes verdict = verdict ≡ other_verdict (links_verdict false ais voc (read_answer bytes))

-- holds if no links are merged with others
abbrev pub IsNoOther : Result (Option (List Link)) FileFault → Type 0
IsNoOther verdict = verdict ≡ Ok None

-- holds if this is the verdict on bytes that are taken unchanged
abbrev pub AreBytes : List ℕ → Result (Option (List ℕ)) FileFault → Type 0
AreBytes bytes verdict = verdict ≡ Ok (Some bytes)

-- holds if there are no bytes
abbrev pub AreNone : Result (Option (List ℕ)) FileFault → Type 0
AreNone verdict = verdict ≡ Ok None

-- holds if the tables and the company prefix lengths that are loaded are these
abbrev pub AreTabled : TablesWithSource → List PrefixEntry → Result Tabled Stop → Type 0
AreTabled given list answer = answer ≡ Ok (record { tables = given.tables; source = given.source; prefixes = list })

-- holds if this is the result of the file of company prefix lengths after these tables
abbrev pub GivesPrefixes : Option FilesHeld → FileNames → TablesWithSource → Result Tabled Stop → Type 0
GivesPrefixes files names given answer = Then (PrefixesGive files names.prefixes) (AreTabled given) answer

-- holds if this is the result of the files of tables and of company prefix lengths
abbrev pub TabledGive : Option FilesHeld → FileNames → Result Tabled Stop → Type 0
TabledGive files names answer = Then (TablesGive files names.tables) (GivesPrefixes files names) answer

-- links, with the document that they were merged to
abbrev pub linked_with : List Link → Result (List Context) Stop → Result Linked Stop
linked_with links (Ok contexts) = Ok (record { links = links; merged = contexts })
linked_with links (Err stop) = Err stop

-- holds if the result is these links, with the document that they and second and third ones are merged to
abbrev pub AreLinked : List AiRow → List ℕ → List Link → Option (List Link) → Option (List Link) → Result Linked Stop → Type 0
AreLinked ais voc links second third answer = answer ≡ linked_with links (of_verdict kind.Merge (merging ais voc links second third))

-- holds if this is the result of the file of third links after these links and second ones
abbrev pub GivesThird : Option FilesHeld → FileNames → List AiRow → List ℕ → List Link → Option (List Link) → Result Linked Stop → Type 0
GivesThird files names ais voc links second answer = Then (OtherGives files kind.Third ais voc names.third) (AreLinked ais voc links second) answer

-- holds if this is the result of the files of second and of third links after these links
abbrev pub GivesOthers : Option FilesHeld → FileNames → List AiRow → List ℕ → List Link → Result Linked Stop → Type 0
GivesOthers files names ais voc links answer = Then (OtherGives files kind.Second ais voc names.second) (GivesThird files names ais voc links) answer

-- holds if this is the result of the files of links, by the application identifiers and the values of a request
abbrev pub LinkedGive : Option FilesHeld → FileNames → Values → List AiRow → Result Linked Stop → Type 0
LinkedGive files names values ais answer =
    Then (LinksGive files values.templates ais values.voc names.links) (GivesOthers files names ais values.voc) answer

-- holds if this is the description in the named file, or none if none is named
abbrev pub DescriptionGives : Option FilesHeld → Option (List ℕ) → Result (Option (List ℕ)) Stop → Type 0
DescriptionGives files name answer = BytesGive files kind.Describe name answer

-- holds if this is how requests are answered, by the values of a request and with a description
abbrev pub AreSettings : Values → Option (List ℕ) → Result Settings Stop → Type 0
AreSettings values describe answer = answer ≡ Ok (record { voc = values.voc; describe = describe; templates = values.templates })

-- holds if these are the settings of replies, by the values of a request and by the result of the file of the description
abbrev pub SettingsGive : Option FilesHeld → FileNames → Values → Result Settings Stop → Type 0
SettingsGive files names values answer = Then (DescriptionGives files names.describe) (AreSettings values) answer

-- holds if this is the load of these tables and prefixes, these links, these settings and these classes
abbrev pub IsLoadedOf : Tabled → Linked → Settings → ClassRows → Result Loaded Stop → Type 0
IsLoadedOf tabled linked settings classes answer =
    answer ≡ Ok (record { tables = tabled.tables; source = tabled.source; prefixes = tabled.prefixes; links = linked.links; merged = linked.merged; settings = settings; classes = classes })

-- holds if this is the result of the file of classes after these tables and prefixes, these links and these settings
abbrev pub GivesClasses : Option FilesHeld → Asked → Tabled → Linked → Settings → Result Loaded Stop → Type 0
GivesClasses files asked tabled linked settings answer =
    Then (ClassesGive files tabled.tables.ais asked.command asked.files.classes) (IsLoadedOf tabled linked settings) answer

-- holds if this is the result of the files of the description and of classes after these tables and prefixes, and these links
abbrev pub GivesSettings : Option FilesHeld → Asked → Tabled → Linked → Result Loaded Stop → Type 0
GivesSettings files asked tabled linked answer = Then (SettingsGive files asked.files asked.values) (GivesClasses files asked tabled linked) answer

-- holds if this is the result of the files of links, of the description and of classes after these tables and prefixes
abbrev pub GivesLinks : Option FilesHeld → Asked → Tabled → Result Loaded Stop → Type 0
GivesLinks files asked tabled answer =
    Then (LinkedGive files asked.files asked.values tabled.tables.ais) (GivesSettings files asked tabled) answer

-- holds if this is the result of the files, part by part
abbrev pub PartsGive : Option FilesHeld → Asked → Result Loaded Stop → Type 0
PartsGive files asked answer = Then (TabledGive files asked.files) (GivesLinks files asked) answer

-- ---- loads

-- trusted, own: Holds if the answer of a load is the result of the files, a read fault, or out of memory. A read fault occurs
-- only if the files counted an error, which `errored` says, or a file is missing.
abbrev pub LoadedBy : {A : Type 0} → (Result A Stop → Type 0) → Bool → Result A Unloaded → Type 0
LoadedBy Give errored (Ok a) = Give (Ok a)
LoadedBy Give errored (Err (Refused rejection)) = Give (Err (rejected rejection))
LoadedBy Give errored (Err ReadFault) = (errored ≡ true) ⊎ ((kind : FileKind) × Give (Err (missing kind)))
LoadedBy Give errored (Err Memory) = Unit {0}

-- holds if the answer of a load of tables is that of the built-in ones, whatever the files are
abbrev pub IsOfBuiltIn : Result TablesWithSource Unloaded → Type 0
IsOfBuiltIn answer = (files : Option FilesHeld) (errored : Bool) → LoadedBy (TablesGive files None) errored answer

-- trusted, own: the files after a load, which counted an error or none: the opened names, whether a file is current, and what is
-- left of it are those now
abbrev pub after_load : Bool → FilesState → FilesState → FilesState
after_load errored now files =
    record files { opened = now.opened; is_open = now.is_open; left = now.left; errors = count_if errored files.errors }

-- trusted, own: Holds if `answer`, of a load of the files `names` between two moments, is the result of the files. An error was
-- counted only with a read fault. The first of the names were opened, in their order: all if the load succeeded, and those up
-- to the rejected file if one is rejected. The function `up_to` gives the names up to the file of a kind. No file was opened after
-- the one at which the load stops, if the files are known. If there are no names, the files are unchanged.
pub record Loads {A : Type 0} (Give : Option FilesHeld → Result A Stop → Type 0) (up_to : FileKind → List (List ℕ)) (names : List (List ℕ)) (AsTheyWere : Type 0) (before now : FilesState) (answer : Result A Unloaded) : Type 0 where
  pub errored : Bool
  pub rest : now ≡ after_load errored now before
  pub faulted : errored ≡ true → answer ≡ Err ReadFault
  pub loaded : LoadedBy (Give before.files) errored answer
  pub opened : OpensFirst names before.opened now.opened
  pub all_opened : Opens names before.opened now.opened answer
  pub to_rejected : (rejection : Rejection) → answer ≡ Err (Refused rejection) → now.opened ≡ before.opened ++ up_to rejection.kind
  pub decided : (known : FilesHeld) (stop : Stop) → before.files ≡ Some known → Give before.files (Err stop) → OpensFirst (up_to (kind_of stop)) before.opened now.opened
  pub unopened : names ≡ [] → AsTheyWere

-- holds if `answer` is that of a load of one file, or of none
abbrev pub LoadsOne : {A : Type 0} → (Option FilesHeld → Result A Stop → Type 0) → List (List ℕ) → Type 0 → FilesState → FilesState → Result A Unloaded → Type 0
LoadsOne Give names AsTheyWere before now answer = Loads Give (λ kind. names) names AsTheyWere before now answer

-- the names of the files of links after the first, up to the one of a kind
abbrev pub others_up_to : FileKind → FileNames → List (List ℕ)
others_up_to kind.Second files = option_to_list files.second
others_up_to other files = others_named files

-- the names of the files of links up to the one of a kind
abbrev pub links_up_to : FileKind → FileNames → List (List ℕ)
links_up_to kind.Links files = first_named files
links_up_to kind.Second files = first_named files ++ option_to_list files.second
links_up_to other files = links_named files

-- the names of the files after the links, up to the one of a kind
abbrev pub settings_up_to : FileKind → FileNames → List (List ℕ)
settings_up_to kind.Describe files = description_named files
settings_up_to other files = description_named files ++ classes_named files

-- the names of the files after the prefixes, up to the one of a kind
abbrev pub rest_up_to : FileKind → FileNames → List (List ℕ)
rest_up_to kind.Links files = first_named files
rest_up_to kind.Second files = first_named files ++ option_to_list files.second
rest_up_to kind.Describe files = links_named files ++ description_named files
rest_up_to kind.Classes files = links_named files ++ (description_named files ++ classes_named files)
rest_up_to other files = links_named files

-- holds if the answer of a load of classes is that of the default ones if no file is named
abbrev pub AreUnnamedClasses : List AiRow → Command → Result ClassRows Unloaded → Type 0
AreUnnamedClasses ais command answer = (errored : Bool) → LoadedBy (StandsFor kind.Classes (UnnamedClasses ais (is_of_classes command))) errored answer

-- holds if the classes are of the table, and no text has two readings by them
pub record AreKept (ais : List AiRow) (set : ClassRows) : Type 0 where
  pub of_table : IsOfTable ais set
  pub clear : IsClear set

-- holds if a request to migrate tables names them
abbrev pub NamesTables : Asked → Type 0
NamesTables asked = asked.command ≡ Migrate → is_some asked.files.tables ≡ true

-- holds if the document of tables that the command migrates loads
abbrev pub HasSource : Command → Loaded → Type 0
HasSource command loaded = command ≡ Migrate → LoadsTables loaded.source
