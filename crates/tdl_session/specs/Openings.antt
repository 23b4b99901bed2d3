-- The sessions that a caller's numbers and bytes give.
use Rattle.std.specs.Prelude.{◌≡◌, ◌≢◌, ℕ, nat_eq, true, List, [], ◌∷◌, length, None, Result, Ok, Err}
use Rattle.std.specs.Bool.{MatchBool}
use Rattle.gs_prefix.specs.Answers.{load_answer}
use Rattle.gs_prefix.specs.declared.entry.PrefixEntry.{PrefixEntry}
use Rattle.gs_prefix.specs.declared.error.PrefixFault.{PrefixFault}
use Rattle.gs_prefix.specs.declared.error.PrefixFault.TheVariants as list
use Rattle.gs_tables.specs.Shapes.{BuiltInAnswer, LoadAnswer}
use Rattle.gs_tables.specs.Tables.{TableRows}
use Rattle.gs_tables_document.specs.declared.error.LoadFault.{LoadFault}
use Rattle.gs_tables_document.specs.declared.error.LoadFault.TheVariants as load
use Rattle.gs_translate.specs.Translations.{AreInOrder, Translating, translating_by}
use Rattle.tdl_session.specs.Choices.{IsFilter, IsFlag, IsGcp, form_code, given, is_size, target_code}
use Rattle.tdl_session.specs.declared.choice.Choice.{Choice}
use Rattle.tdl_session.specs.declared.choice.Chosen.{Chosen}
use Rattle.tdl_session.specs.declared.opening.Unopened.{Unopened}
use Rattle.tdl_session.specs.declared.opening.Unopened.TheVariants.{Argument, Tables, Prefixes, Classes, Memory}
use Rattle.tdl_session.specs.Sessions.{SessionData}

-- ---- the numbers

-- trusted, own: holds if the numbers, the name of the encoding and the stem are these forms and options
pub record IsChosen (choice : Choice) (encoding stem : List ℕ) (chosen : Chosen) : Type 0 where
  pub size : is_size choice.size ≡ true
  pub from : form_code chosen.from ≡ choice.from
  pub to : target_code chosen.to ≡ choice.to
  pub filter : IsFilter (given choice.size 11 choice.filter 255) chosen.options.filter
  pub gcp : IsGcp (given choice.size 12 choice.gcp 0) chosen.options.gcp
  pub keys_only : IsFlag (given choice.size 16 choice.flags 0) chosen.options.keys_only
  pub has_encoding : chosen.options.encoding ≡ encoding
  pub has_stem : chosen.options.stem ≡ stem
  pub in_order : AreInOrder chosen.options

-- trusted, own: holds if they are some forms and options
abbrev pub AreChosen : Choice → List ℕ → List ℕ → Type 0
AreChosen choice encoding stem = (chosen : Chosen) × IsChosen choice encoding stem chosen

-- trusted, own: holds if they are none and the reason says so, or memory ran out
abbrev pub IsNotChosen : Choice → List ℕ → List ℕ → Unopened → Type 0
IsNotChosen choice encoding stem Argument = AreChosen choice encoding stem → ⊥
IsNotChosen choice encoding stem (Tables error) = ⊥
IsNotChosen choice encoding stem (Prefixes error) = ⊥
IsNotChosen choice encoding stem (Classes error) = ⊥
IsNotChosen choice encoding stem Memory = Unit {0}

-- ---- the documents

-- trusted, own: holds if this is the result of the tables of a document, or of the built-in ones if it is empty
abbrev pub TablesGive : List ℕ → Result TableRows LoadFault → Type 0
TablesGive bytes answer = MatchBool (nat_eq (length bytes) 0) (BuiltInAnswer answer) (LoadAnswer bytes answer)

-- trusted, own: holds if the document gives tables
abbrev pub GiveTables : List ℕ → Type 0
GiveTables bytes = (set : TableRows) × TablesGive bytes (Ok set)

-- trusted, own: the entries of a list of company prefix lengths, or its first rejection; none if it is empty
abbrev pub prefixes_given : List ℕ → Result (List PrefixEntry) PrefixFault
prefixes_given [] = Ok []
prefixes_given (c ∷ cs) = load_answer (c ∷ cs)

-- trusted, own: holds if the tables are rejected for this reason, or memory ran out
abbrev pub AreRejected : List ℕ → Unopened → Type 0
AreRejected tables Argument = ⊥
AreRejected tables (Tables error) = (error ≢ load.Memory) × TablesGive tables (Err error)
AreRejected tables (Prefixes error) = ⊥
AreRejected tables (Classes error) = ⊥
AreRejected tables Memory = Unit {0}

-- trusted, own: holds if the list is rejected for this reason, or memory ran out
abbrev pub ArePrefixesRejected : List ℕ → Unopened → Type 0
ArePrefixesRejected prefixes Argument = ⊥
ArePrefixesRejected prefixes (Tables error) = ⊥
ArePrefixesRejected prefixes (Prefixes error) = (error ≢ list.Memory) × (prefixes_given prefixes ≡ Err error)
ArePrefixesRejected prefixes (Classes error) = ⊥
ArePrefixesRejected prefixes Memory = Unit {0}

-- ---- the sessions

-- trusted, own: the session of the tables, the prefixes, and the chosen forms and options
abbrev pub session_of : TableRows → List PrefixEntry → Chosen → Translating
session_of set prefixes chosen = translating_by set prefixes chosen.options chosen.from chosen.to

-- trusted, own: holds if the session is that of the numbers and the documents
pub record IsSession (choice : Choice) (encoding stem tables prefixes : List ℕ) (session : Translating) : Type 0 where
  pub chosen : Chosen
  pub is_chosen : IsChosen choice encoding stem chosen
  pub has_tables : TablesGive tables (Ok session.set)
  pub has_prefixes : Ok session.prefixes ≡ prefixes_given prefixes
  pub is : session ≡ session_of session.set session.prefixes chosen

-- trusted, own: holds if the result is the session, with no classes, or what is rejected first: the numbers, the tables, the list;
-- or `Memory`
abbrev pub IsOpened : Choice → List ℕ → List ℕ → List ℕ → List ℕ → Result SessionData Unopened → Type 0
IsOpened choice encoding stem tables prefixes (Ok session) = (session.classes ≡ None) × IsSession choice encoding stem tables prefixes session.translating
IsOpened choice encoding stem tables prefixes (Err Argument) = IsNotChosen choice encoding stem Argument
IsOpened choice encoding stem tables prefixes (Err (Tables error)) = AreChosen choice encoding stem × AreRejected tables (Tables error)
IsOpened choice encoding stem tables prefixes (Err (Prefixes error)) =
    AreChosen choice encoding stem × GiveTables tables × ArePrefixesRejected prefixes (Prefixes error)
IsOpened choice encoding stem tables prefixes (Err (Classes error)) = ⊥
IsOpened choice encoding stem tables prefixes (Err Memory) = Unit {0}

-- trusted, own: a session of the tables, the prefixes and the classes of another, and the chosen forms and options
abbrev pub retargeted_by : SessionData → Chosen → SessionData
retargeted_by other chosen = record { translating = session_of other.translating.set other.translating.prefixes chosen; classes = other.classes }

-- trusted, own: holds if a session has the numbers' forms and options, and the tables, prefixes and classes of the other
abbrev pub IsRetargeted : SessionData → Choice → List ℕ → List ℕ → SessionData → Type 0
IsRetargeted other choice encoding stem session =
    (chosen : Chosen) × IsChosen choice encoding stem chosen × (session ≡ retargeted_by other chosen)
