-- The requests of command line arguments.
use Rattle.std.specs.Prelude.{◌≡◌, ◌⊎◌, ℕ, Bool, false, true, List, [], ◌∷◌, ◌++◌, codes, Option, Some, None, option_and_then, option_map, option_to_list, unwrap_or, bytes_eq, map, String, string_bytes}
use Rattle.std.specs.Borrow.{Bor}
use Rattle.std.specs.List.{Contains}
use Rattle.gs_ident.specs.Links.{canonical_stem}
use Rattle.gs_translate.specs.declared.form.Options.{Options}
use Rattle.gs_links.specs.Loads.{keeps_names}
use Rattle.tdl_arguments.specs.declared.command.Command.{Command}
use Rattle.tdl_arguments.specs.declared.command.Command.TheVariants.{Merge}
use Rattle.tdl_arguments.specs.declared.name.Name.{Name}
use Rattle.tdl_arguments.specs.declared.name.Name.TheVariants.{Tables, Prefixes, Links, Describe, Classes, Voc, Listen, Count, Filter, Gcp, Encoding, KeysOnly, Stem, LinkText, Second, Third, Templates}
use Rattle.tdl_arguments.specs.declared.request.LinksFile.{LinksFile}
use Rattle.tdl_arguments.specs.declared.request.LinksFile.TheVariants.{Json, Text}
use Rattle.tdl_arguments.specs.declared.request.NamedFiles.{NamedFiles}
use Rattle.tdl_arguments.specs.declared.request.NamedValues.{NamedValues}
use Rattle.tdl_arguments.specs.declared.request.Request.{Request}
use Rattle.tdl_arguments.specs.Commands.{command_words, names_of, operands_in_range}
use Rattle.tdl_arguments.specs.Names.{AreOfRows, NamedPairs, has_required, look_up, name_word}
use Rattle.tdl_arguments.specs.Ranges.{count_of, filter_of, gcp_of}

-- trusted, own: the words of the arguments of the command line
abbrev pub known_words : {Z : Type 0} → List (String Z) → List (List ℕ)
known_words words = map string_bytes words

-- trusted, own: the name of a file of links: a linkset in JSON, or one as text
pub data LinksName : Type 0 where
  in_json as_text : List ℕ → LinksName

-- trusted, own: the names of the files of a request
pub record FileNames : Type 0 where
  pub tables : Option (List ℕ)
  pub prefixes : Option (List ℕ)
  pub links : Option LinksName
  pub second : Option (List ℕ)
  pub third : Option (List ℕ)
  pub describe : Option (List ℕ)
  pub classes : Option (List ℕ)

-- trusted, own: the values of a request that are not names of files
pub record Values : Type 0 where
  pub voc : List ℕ
  pub templates : Bool
  pub listen : List ℕ
  pub count : ℕ
  pub filter : Option ℕ
  pub gcp : Option ℕ
  pub encoding : List ℕ
  pub keys_only : Bool
  pub stem : List ℕ

-- trusted, own: a request: a command with its operands, the names of its files, and its values
pub record Asked : Type 0 where
  pub command : Command
  pub files : FileNames
  pub values : Values

-- trusted, own: the name of the file of links, by the name of one in JSON or of one as text
abbrev pub links_by : Option (List ℕ) → Option (List ℕ) → Option LinksName
links_by (Some name) text = Some (in_json name)
links_by None text = option_map as_text text

-- trusted, own: the names of files in the pairs
abbrev pub named_files : NamedPairs → FileNames
named_files pairs = record {
  tables = look_up (name_word Tables) pairs;
  prefixes = look_up (name_word Prefixes) pairs;
  links = links_by (look_up (name_word Links) pairs) (look_up (name_word LinkText) pairs);
  second = look_up (name_word Second) pairs;
  third = look_up (name_word Third) pairs;
  describe = look_up (name_word Describe) pairs;
  classes = look_up (name_word Classes) pairs;
}

-- trusted, own: the value of a name in the pairs, or the default
abbrev pub value_or : List ℕ → Name → NamedPairs → List ℕ
value_or default name pairs = unwrap_or (look_up (name_word name) pairs) default

-- trusted, own: the number that is the value of a name in the pairs
abbrev pub number_named : (List ℕ → Option ℕ) → Name → NamedPairs → Option ℕ
number_named number_of name pairs = option_and_then number_of (look_up (name_word name) pairs)

-- trusted, own: The values of the names in the pairs, with their defaults. The defaults are references that are not templates,
-- no connection, no filter value and no company prefix length. They are also no encoding, all elements kept, and the stem of
-- canonical links.
abbrev pub named_values : NamedPairs → Values
named_values pairs = record {
  voc = value_or (codes "https://ref.gs1.org/voc/") Voc pairs;
  templates = bytes_eq (value_or (codes "no") Templates pairs) (codes "yes");
  listen = value_or (codes "127.0.0.1:8080") Listen pairs;
  count = unwrap_or (number_named count_of Count pairs) 0;
  filter = number_named filter_of Filter pairs;
  gcp = number_named gcp_of Gcp pairs;
  encoding = value_or [] Encoding pairs;
  keys_only = bytes_eq (value_or (codes "no") KeysOnly pairs) (codes "yes");
  stem = value_or canonical_stem Stem pairs;
}

-- trusted, own: the request of a command with pairs: the look-up of the names, with their defaults
abbrev pub asked_of : Command → NamedPairs → Asked
asked_of command pairs = record { command = command; files = named_files pairs; values = named_values pairs }

-- trusted, own: holds if the command may have `values`: the vocabulary of `merge` keeps names (`keeps_names`)
abbrev pub may_have : Command → Values → Bool
may_have Merge values = keeps_names values.voc
may_have command values = true

-- trusted, own: Holds if `words`, after a command and its operands, are pairs that ask for `asked`. The command takes these
-- names, each row at most once and the required ones present, and may have these values.
pub record Asks (command : Command) (words : List (List ℕ)) (asked : Asked) : Type 0 where
  pub pairs : NamedPairs
  pub of_rows : AreOfRows (names_of command) words pairs
  pub required : has_required (names_of command) pairs ≡ true
  pub fits : may_have command (named_values pairs) ≡ true
  pub is : asked ≡ asked_of command pairs

-- trusted, own: holds if `words` are valid and ask for `asked`: a command, operands in range, and pairs
pub record WordsInOrder (words : List (List ℕ)) (asked : Asked) : Type 0 where
  pub command : Command
  pub behind : List (List ℕ)
  pub spelled : words ≡ command_words command ++ behind
  pub in_range : operands_in_range command ≡ true
  pub asks : Asks command behind asked

-- trusted, own: holds if `words` are invalid: they ask for nothing
abbrev pub NotInOrder : List (List ℕ) → Type 0
NotInOrder words = (asked : Asked) → WordsInOrder words asked → ⊥

-- trusted, own: holds if `words` are valid, and `Fact` holds of their request
pub record Asking (words : List (List ℕ)) (Fact : Asked → Type 0) : Type 0 where
  pub asked : Asked
  pub order : WordsInOrder words asked
  pub fact : Fact asked

-- trusted, own: holds if `words` are valid and `Fact` holds of their request, or they are invalid and `Other` holds
abbrev pub AskingOr : List (List ℕ) → (Asked → Type 0) → Type 0 → Type 0
AskingOr words Fact Other = Asking words Fact ⊎ (NotInOrder words × Other)

-- trusted, own: holds if `words` are valid, and the command that they ask for passes `test`
abbrev pub AsksFor : (Command → Bool) → List (List ℕ) → Type 0
AsksFor test words = Asking words (λ asked. test asked.command ≡ true)

-- trusted, own: the options of translations, by the values of a request
abbrev pub options_of : Values → Options
options_of values = record { filter = values.filter; gcp = values.gcp; encoding = values.encoding; keys_only = values.keys_only; stem = values.stem }

-- trusted, own: the options of `canon`, which are those of words that name none
abbrev pub no_options : Options
no_options = record { filter = None; gcp = None; encoding = []; keys_only = false; stem = canonical_stem }

-- trusted, own: the names of the files of tables and company prefix lengths, in their order
abbrev pub tables_named : FileNames → List (List ℕ)
tables_named files = option_to_list files.tables ++ option_to_list files.prefixes

-- trusted, own: the name itself of a file of links
abbrev pub name_of_links : LinksName → List ℕ
name_of_links (in_json name) = name
name_of_links (as_text name) = name

-- trusted, own: the name of the file of links, if any
abbrev pub first_named : FileNames → List (List ℕ)
first_named files = option_to_list (option_map name_of_links files.links)

-- trusted, own: the names of the files of links that are merged with the first, in their order
abbrev pub others_named : FileNames → List (List ℕ)
others_named files = option_to_list files.second ++ option_to_list files.third

-- trusted, own: the names of the files of links, in their order
abbrev pub links_named : FileNames → List (List ℕ)
links_named files = first_named files ++ others_named files

-- trusted, own: the name of the file with the resolver description, if any
abbrev pub description_named : FileNames → List (List ℕ)
description_named files = option_to_list files.describe

-- trusted, own: the name of the file of classes, if any
abbrev pub classes_named : FileNames → List (List ℕ)
classes_named files = option_to_list files.classes

-- trusted, own: the names of the files that are read, in their order
abbrev pub names_in_order : FileNames → List (List ℕ)
names_in_order files = tables_named files ++ (links_named files ++ (description_named files ++ classes_named files))

-- trusted, own: holds if `words` are invalid or name no file
abbrev pub NamesNoFile : List (List ℕ) → Type 0
NamesNoFile words = (name : List ℕ) → Asking words (λ asked. Contains (names_in_order asked.files) name) → ⊥

-- trusted, own: the line that is printed if the words are invalid
abbrev pub usage_line : List ℕ
usage_line =
    codes "usage: tdl canon FORM | translate FROM TO | check | resolve | serve | gen N | migrate | class canon | class uri | dump read | dump write | merge, then --name value pairs" ++ 10 ∷ []

-- trusted, own: the name of a file in the code's request
abbrev pub known_name : Option (Bor (List ℕ)) → Option (List ℕ)
known_name None = None
known_name (Some name) = Some name.now

-- trusted, own: the name of the file of links in the code's request
abbrev pub known_links : Option LinksFile → Option LinksName
known_links None = None
known_links (Some (Json name)) = Some (in_json name.now)
known_links (Some (Text name)) = Some (as_text name.now)

-- trusted, own: the names of the files in the code's request
abbrev pub known_files : NamedFiles → FileNames
known_files files = record {
  tables = known_name files.tables;
  prefixes = known_name files.prefixes;
  links = known_links files.links;
  second = known_name files.second;
  third = known_name files.third;
  describe = known_name files.describe;
  classes = known_name files.classes;
}

-- trusted, own: the names of the files in the code's request, in their order
abbrev pub all_named : Request → List (List ℕ)
all_named request = names_in_order (known_files request.files)

-- trusted, own: the values in the code's request
abbrev pub known_values : NamedValues → Values
known_values values = record { voc = values.voc.now; templates = values.templates; listen = values.listen.now; count = values.count; filter = values.filter; gcp = values.gcp; encoding = values.encoding.now; keys_only = values.keys_only; stem = values.stem.now }

-- trusted, own: the request that the code's request stands for
abbrev pub known_request : Request → Asked
known_request request = record { command = request.command; files = known_files request.files; values = known_values request.values }
