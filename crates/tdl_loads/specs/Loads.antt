-- The results of files, and the default rows of files that are not named.
use Rattle.std.specs.Prelude.{◌≡◌, ℕ, ◌<◌, ◌≤◌, Bool, true, false, List, [], ◌++◌, length, take, Option, Some, None, Result, Ok, Err, IfOk, ◌≢◌, if◌then◌else◌, map, option_map, option_to_list}
use Rattle.std.specs.List.{enumerate_from, flat_map}
use Rattle.gs_ai.specs.declared.row.AiRow.{AiRow}
use Rattle.gs_chars.specs.Answers.{first_or}
use Rattle.gs_tables_document.specs.declared.error.LoadFault.{LoadFault}
use Rattle.gs_tables_document.specs.declared.error.LoadFault.TheVariants.{Ambiguous}
use Rattle.gs_tables_document.specs.declared.document.LevelName.{LevelName}
use Rattle.gs_class.specs.declared.error.ClassLoadFault.{ClassLoadFault}
use Rattle.gs_class.specs.declared.error.ClassLoadFault.TheVariants.{Ambiguous as AmbiguousClasses}
use Rattle.gs_class.specs.Answers.{BuiltInAnswer as BuiltInClasses, LoadAnswer as ClassesAnswer}
use Rattle.gs_class.specs.Sets.{ClassRows, set_of}
use Rattle.gs_json.specs.declared.error.JsonFault.{JsonFault}
use Rattle.gs_links.specs.declared.error.StoreFault.{StoreFault}
use Rattle.gs_links.specs.declared.error.StoreFault.TheVariants.{TooMany}
use Rattle.gs_links.specs.declared.link.Link.{Link}
use Rattle.gs_links.specs.Loads.{load_answer as store_answer}
use Rattle.gs_linkset.specs.declared.link_types.Context.{Context}
use Rattle.gs_linkset.specs.Answers.{read_answer}
use Rattle.gs_linktext.specs.ReadAnswers.{IsReadAs, IsReadError}
use Rattle.gs_linktext_grammar.specs.declared.error.LinkTextFault.{LinkTextFault}
use Rattle.gs_linktext_grammar.specs.declared.error.LinkTextFault.TheVariants as text
use Rattle.gs_merge.specs.MergedDocuments.{merge_answer}
use Rattle.gs_port.specs.Files.{IsAbsent, IsFile, FilesHeld}
use Rattle.gs_prefix.specs.Answers.{load_answer}
use Rattle.gs_prefix.specs.declared.entry.PrefixEntry.{PrefixEntry}
use Rattle.gs_tables.specs.Shapes.{BuiltInAnswer, HasMemory, LoadAnswer}
use Rattle.gs_tables.specs.Tables.{TableRows}
use Rattle.gs_template.specs.Errors.{place_errors}
use Rattle.gs_translate.specs.Steps.{Then, reworded}
use Rattle.tdl_messages.specs.declared.file_kind.FileKind.{FileKind}
use Rattle.tdl_messages.specs.declared.file_kind.FileKind.TheVariants as kind
use Rattle.tdl_messages.specs.declared.rejection.FileFault.{FileFault}
use Rattle.tdl_messages.specs.declared.rejection.FileFault.TheVariants.{Over, Tables, Prefixes, Linkset, Store, Classes, LinkText, Place}
use Rattle.tdl_messages.specs.declared.rejection.Rejection.{Rejection}
use Rattle.tdl_messages.specs.Rejections.{file_limit}
use Rattle.tdl_arguments.specs.declared.command.Command.{Command}
use Rattle.tdl_arguments.specs.declared.command.Command.TheVariants.{ClassCanon, ClassUri}
use Rattle.tdl_arguments.specs.Requests.{Asked, FileNames, LinksName, as_text, description_named, first_named, in_json, links_named, name_of_links, names_in_order, tables_named}
use Rattle.tdl_loads.specs.declared.loads.Loaded.{Loaded}
use Rattle.tdl_loads.specs.declared.loads.TablesWithSource.{TablesWithSource}
use Rattle.tdl_loads.specs.declared.loads.Unloaded.{Unloaded}

-- trusted, own: the reason why a run stops at its files: the file of a kind is missing, or one is rejected
pub data Stop : Type 0 where
  missing : FileKind → Stop
  rejected : Rejection → Stop

-- trusted, own: the kind of the file at which a run stops
abbrev pub kind_of : Stop → FileKind
kind_of (missing kind) = kind
kind_of (rejected rejection) = rejection.kind

-- trusted, own: the answer of a run's step, by the verdict on a file of a kind
abbrev pub of_verdict : {A : Type 0} → FileKind → Result A FileFault → Result A Stop
of_verdict kind (Ok a) = Ok a
of_verdict kind (Err error) = Err (rejected (record { kind = kind; error = error }))

-- trusted, own: Holds if `answer` is the result of the file `name` of a kind. It is missing, it has more bytes than its kind
-- may have, or `Judges` gives the verdict on its bytes.
pub data FileGives {A : Type 0} (files : Option FilesHeld) (kind : FileKind) (Judges : List ℕ → Result A FileFault → Type 0) (name : List ℕ) (answer : Result A Stop) : Type 0 where
  absent : IsAbsent files name → answer ≡ Err (missing kind) → FileGives files kind Judges name answer
  too_large : (bytes : List ℕ) → IsFile files name bytes → file_limit kind < length bytes → answer ≡ of_verdict kind (Err Over) → FileGives files kind Judges name answer
  judged : (bytes : List ℕ) (verdict : Result A FileFault) → IsFile files name bytes → length bytes ≤ file_limit kind → Judges bytes verdict → answer ≡ of_verdict kind verdict → FileGives files kind Judges name answer

-- trusted, own: holds if `answer` is by the verdict on the default of a file that is not named
pub record StandsFor {A : Type 0} (kind : FileKind) (Unnamed : Result A FileFault → Type 0) (answer : Result A Stop) : Type 0 where
  pub verdict : Result A FileFault
  pub judged : Unnamed verdict
  pub is : answer ≡ of_verdict kind verdict

-- trusted, own: holds if `answer` is the result of the named file of `kind`, or of its default if none is named
abbrev pub Gives : {A : Type 0} → Option FilesHeld → FileKind → (List ℕ → Result A FileFault → Type 0) → (Result A FileFault → Type 0) → Option (List ℕ) → Result A Stop → Type 0
Gives files kind Judges Unnamed None answer = StandsFor kind Unnamed answer
Gives files kind Judges Unnamed (Some name) answer = FileGives files kind Judges name answer

-- trusted, own: Holds if `answer` is the result of a file of `kind`. The verdict on its bytes is `judge`, and `unnamed` if no
-- file is named.
abbrev pub GivesBy : {A : Type 0} → Option FilesHeld → FileKind → (List ℕ → Result A FileFault) → Result A FileFault → Option (List ℕ) → Result A Stop → Type 0
GivesBy files kind judge unnamed name answer = Gives files kind (λ bytes verdict. verdict ≡ judge bytes) (λ verdict. verdict ≡ unnamed) name answer

-- trusted, own: the verdict on a document of tables, by the answer of its load
abbrev pub tables_verdict : List ℕ → Result TableRows LoadFault → Result TablesWithSource FileFault
tables_verdict source (Ok set) = Ok (record { tables = set; source = source })
tables_verdict source (Err error) = Err (Tables error)

-- trusted, own: holds if `verdict` is that on a document of tables, by an answer of its load other than out of memory
pub record JudgesTables (source : List ℕ) (Answer : Result TableRows LoadFault → Type 0) (verdict : Result TablesWithSource FileFault) : Type 0 where
  pub answer : Result TableRows LoadFault
  pub enough : HasMemory answer
  pub is_answer : Answer answer
  pub is : verdict ≡ tables_verdict source answer

-- trusted, own: holds if `answer` is the tables of the named file, with its bytes, or the built-in ones, without a document, if
-- none is named
abbrev pub TablesGive : Option FilesHeld → Option (List ℕ) → Result TablesWithSource Stop → Type 0
TablesGive files name answer =
    Gives files kind.Tables (λ bytes. JudgesTables bytes (LoadAnswer bytes)) (JudgesTables [] BuiltInAnswer) name answer

-- trusted, own: holds if `answer` is the company prefix lengths of the named file, or none if none is named
abbrev pub PrefixesGive : Option FilesHeld → Option (List ℕ) → Result (List PrefixEntry) Stop → Type 0
PrefixesGive files name answer = GivesBy files kind.Prefixes (λ bytes. reworded Prefixes (load_answer bytes)) (Ok []) name answer

-- trusted, own: the errors of a numbered link's reference as a template, next to the key of its anchor
abbrev pub link_errors : List AiRow → ℕ × Link → List FileFault
link_errors ais row = map (Place row.0) (place_errors ais row.1.anchor.key.code row.1.target.href)

-- trusted, own: the errors of the links' references as templates, in the order of the links
unfoldable pub places_errors : List AiRow → List Link → List FileFault
places_errors ais links = flat_map (link_errors ais) (enumerate_from 0 links)

-- trusted, own: the links, or the first error of their references if these are templates
abbrev pub placed : Bool → List AiRow → List Link → Result (List Link) FileFault
placed templates ais links = if templates then first_or (places_errors ais links) links else Ok links

-- trusted, own: the verdict on a linkset, by the answer of its load as a store; `templates` says whether references are templates
abbrev pub store_verdict : Bool → List AiRow → Result (List Link) StoreFault → Result (List Link) FileFault
store_verdict templates ais (Ok links) = placed templates ais links
store_verdict templates ais (Err error) = Err (Store error)

-- trusted, own: the verdict on links, by the answer of reading them as a linkset, with these AIs and this vocabulary
abbrev pub links_verdict : Bool → List AiRow → List ℕ → Result (List Context) JsonFault → Result (List Link) FileFault
links_verdict templates ais voc (Ok contexts) = store_verdict templates ais (store_answer ais voc contexts)
links_verdict templates ais voc (Err error) = Err (Linkset error)

-- trusted, own: holds if `verdict` is that on links by their `bytes` in JSON
abbrev pub JudgesLinks : Bool → List AiRow → List ℕ → List ℕ → Result (List Link) FileFault → Type 0
JudgesLinks templates ais voc bytes verdict = verdict ≡ links_verdict templates ais voc (read_answer bytes)

-- trusted, own: holds if `verdict` is that on links by their `bytes` as text, which are a linkset or have an error
pub data JudgesText (templates : Bool) (ais : List AiRow) (voc bytes : List ℕ) (verdict : Result (List Link) FileFault) : Type 0 where
  read_as : (contexts : List Context) → IsReadAs bytes contexts → verdict ≡ store_verdict templates ais (store_answer ais voc contexts) → JudgesText templates ais voc bytes verdict
  unread : (error : LinkTextFault) → error ≢ text.Memory → IsReadError bytes error → verdict ≡ Err (LinkText error) → JudgesText templates ais voc bytes verdict

-- trusted, own: holds if `verdict` is that on links by their `bytes`, in JSON or as text, as the words name their file
abbrev pub JudgesFile : Bool → List AiRow → List ℕ → Option LinksName → List ℕ → Result (List Link) FileFault → Type 0
JudgesFile templates ais voc None bytes verdict = JudgesLinks templates ais voc bytes verdict
JudgesFile templates ais voc (Some (in_json name)) bytes verdict = JudgesLinks templates ais voc bytes verdict
JudgesFile templates ais voc (Some (as_text name)) bytes verdict = JudgesText templates ais voc bytes verdict

-- trusted, own: holds if `answer` is the links of the named file, or none if none is named
abbrev pub LinksGive : Option FilesHeld → Bool → List AiRow → List ℕ → Option LinksName → Result (List Link) Stop → Type 0
LinksGive files templates ais voc name answer =
    Gives files kind.Links (JudgesFile templates ais voc name) (λ verdict. verdict ≡ Ok []) (option_map name_of_links name) answer

-- trusted, own: the verdict on links that are merged with others
abbrev pub other_verdict : Result (List Link) FileFault → Result (Option (List Link)) FileFault
other_verdict (Ok links) = Ok (Some links)
other_verdict (Err error) = Err error

-- trusted, own: holds if `answer` is the links of the named file, which are merged with others, or none if none is named
abbrev pub OtherGives : Option FilesHeld → FileKind → List AiRow → List ℕ → Option (List ℕ) → Result (Option (List Link)) Stop → Type 0
OtherGives files kind ais voc name answer = GivesBy files kind (λ bytes. other_verdict (links_verdict false ais voc (read_answer bytes))) (Ok None) name answer

-- trusted, own: the document that a store and links are merged to
abbrev pub merged_store : Result (List Link) FileFault → List Link → Result (List Context) FileFault
merged_store (Ok store) links = reworded (λ _. Store TooMany) (merge_answer store links)
merged_store (Err error) links = Err error

-- trusted, own: The document that a merged one, loaded again, and further links are merged to, if there are any. By the law
-- `merged_document_loads` it is never rejected as a store.
abbrev pub merged_with : List AiRow → List ℕ → Result (List Context) FileFault → Option (List Link) → Result (List Context) FileFault
merged_with ais voc verdict None = verdict
merged_with ais voc (Err error) (Some links) = Err error
merged_with ais voc (Ok contexts) (Some links) = merged_store (store_verdict false ais (store_answer ais voc contexts)) links

-- trusted, own: the document that links, second and third ones are merged to; without second ones it has no context
abbrev pub merging : List AiRow → List ℕ → List Link → Option (List Link) → Option (List Link) → Result (List Context) FileFault
merging ais voc links None third = Ok []
merging ais voc links (Some second) third = merged_with ais voc (reworded (λ _. Store TooMany) (merge_answer links second)) third

-- trusted, own: holds if `answer` is the bytes of the named file of `kind`, or none if none is named
abbrev pub BytesGive : Option FilesHeld → FileKind → Option (List ℕ) → Result (Option (List ℕ)) Stop → Type 0
BytesGive files kind name answer = GivesBy files kind (λ bytes. Ok (Some bytes)) (Ok None) name answer

-- trusted, own: holds if the command works on class URIs
abbrev pub is_of_classes : Command → Bool
is_of_classes ClassCanon = true
is_of_classes ClassUri = true
is_of_classes command = false

-- trusted, own: holds if `verdict` is that on classes, by an answer of their load
pub record JudgesClasses (Answer : Result ClassRows ClassLoadFault → Type 0) (verdict : Result ClassRows FileFault) : Type 0 where
  pub answer : Result ClassRows ClassLoadFault
  pub is_answer : Answer answer
  pub is : verdict ≡ reworded Classes answer

-- trusted, own: Holds if `verdict` is that on classes if no file of them is named. It is the built-in ones for a command on
-- class URIs, otherwise none.
abbrev pub UnnamedClasses : List AiRow → Bool → Result ClassRows FileFault → Type 0
UnnamedClasses ais true verdict = JudgesClasses (BuiltInClasses ais) verdict
UnnamedClasses ais false verdict = verdict ≡ Ok (set_of [])

-- trusted, own: holds if `answer` is the classes of the named file, or the default ones, with the application identifiers `ais`
abbrev pub ClassesGive : Option FilesHeld → List AiRow → Command → Option (List ℕ) → Result ClassRows Stop → Type 0
ClassesGive files ais command name answer =
    Gives files kind.Classes (λ bytes. JudgesClasses (ClassesAnswer ais bytes)) (UnnamedClasses ais (is_of_classes command)) name answer

-- trusted, own: holds if `answer` is the result of the files, one at a time, or the reason of the first that is missing or
-- rejected
abbrev pub FilesGive : Option FilesHeld → Asked → Result Loaded Stop → Type 0
FilesGive files asked answer =
    let names = asked.files in
    let values = asked.values in
    Then (TablesGive files names.tables) (λ given.
    Then (PrefixesGive files names.prefixes) (λ prefixes.
    Then (LinksGive files values.templates given.tables.ais values.voc names.links) (λ links.
    Then (OtherGives files kind.Second given.tables.ais values.voc names.second) (λ second.
    Then (OtherGives files kind.Third given.tables.ais values.voc names.third) (λ third.
    Then (λ merged. merged ≡ of_verdict kind.Merge (merging given.tables.ais values.voc links second third)) (λ merged.
    Then (BytesGive files kind.Describe names.describe) (λ describe.
    Then (ClassesGive files given.tables.ais asked.command names.classes) (λ classes loaded.
    loaded ≡ Ok (record {
      tables = given.tables;
      source = given.source;
      prefixes = prefixes;
      links = links;
      merged = merged;
      settings = record { voc = values.voc; describe = describe; templates = values.templates };
      classes = classes;
    }))))))))) answer

-- trusted, own: holds if the files give contents that load, and `Fact` holds of them
abbrev pub Loading : Option FilesHeld → Asked → (Loaded → Type 0) → Type 0
Loading files asked Fact = (loaded : Loaded) × FilesGive files asked (Ok loaded) × Fact loaded

-- trusted, own: holds if the run stops at its files, and `Fact` holds of the reason
abbrev pub Stopping : Option FilesHeld → Asked → (Stop → Type 0) → Type 0
Stopping files asked Fact = (stop : Stop) × FilesGive files asked (Err stop) × Fact stop

-- trusted, own: holds if only the first of `names` were opened, in their order
abbrev pub OpensFirst : List (List ℕ) → List (List ℕ) → List (List ℕ) → Type 0
OpensFirst names before now = (count : ℕ) × (now ≡ before ++ take count names)

-- trusted, own: the names of the files up to the one of a kind, in their order; second and third links are merged after both are
-- loaded
abbrev pub named_up_to : FileKind → FileNames → List (List ℕ)
named_up_to kind.Tables files = option_to_list files.tables
named_up_to kind.Prefixes files = tables_named files
named_up_to kind.Links files = tables_named files ++ first_named files
named_up_to kind.Second files = tables_named files ++ (first_named files ++ option_to_list files.second)
named_up_to kind.Describe files = tables_named files ++ (links_named files ++ description_named files)
named_up_to kind.Classes files = names_in_order files
named_up_to other files = tables_named files ++ links_named files

-- trusted, own: Holds if only the first of the named files were opened, in their order. If the files are known, none was opened
-- after the one at which the run stops.
pub record OpensUpTo (files : Option FilesHeld) (asked : Asked) (before now : List (List ℕ)) : Type 0 where
  pub first : OpensFirst (names_in_order asked.files) before now
  pub decided : (known : FilesHeld) (stop : Stop) → files ≡ Some known → FilesGive files asked (Err stop) → OpensFirst (named_up_to (kind_of stop) asked.files) before now

-- trusted, own: holds if, once the load succeeded, all of `names` and no others were opened, in their order
abbrev pub Opens : {A : Type 0} → List (List ℕ) → List (List ℕ) → List (List ℕ) → Result A Unloaded → Type 0
Opens names before now answer = IfOk answer (λ _. now ≡ before ++ names)

-- trusted, own: The place of an ambiguity, at which a text has two derivations. It is a level of the tables and a pair of its
-- options, or a pair of classes.
pub data Ambiguity : Type 0 where
  of_tables : LevelName → ℕ → ℕ → Ambiguity
  of_classes : ℕ → ℕ → Ambiguity

-- trusted, own: the rejection at which a run stops if this text has two derivations at this place
abbrev pub ambiguous : Ambiguity → List ℕ → Stop
ambiguous (of_tables name i j) text = rejected (record { kind = kind.Tables; error = Tables (Ambiguous name i j text) })
ambiguous (of_classes i j) text = rejected (record { kind = kind.Classes; error = Classes (AmbiguousClasses i j text) })
