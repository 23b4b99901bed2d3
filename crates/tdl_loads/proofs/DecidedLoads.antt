-- No file is opened after the one at which a load stops.
use Rattle.std.proofs.Common.{◌≡◌, ◌⊎◌, inl, inr, ℕ, List, ◌++◌, Option, Some, None, option_to_list, refl, ap}
use Rattle.std.specs.Prelude.{Result, Ok, Err}
use Rattle.gs_ai.specs.declared.row.AiRow.{AiRow}
use Rattle.gs_http.specs.declared.resolver.Settings.{Settings}
use Rattle.gs_links.specs.declared.link.Link.{Link}
use Rattle.gs_linkset.specs.declared.link_types.Context.{Context}
use Rattle.gs_translate.specs.Steps.{Then, goes_on, rejects}
use Rattle.tdl_messages.specs.declared.file_kind.FileKind.{FileKind}
use Rattle.tdl_messages.specs.declared.file_kind.FileKind.TheVariants as kind
use Rattle.tdl_messages.specs.declared.rejection.FileFault.{FileFault}
use Rattle.tdl_messages.specs.declared.rejection.FileFault.TheVariants.{Over}
use Rattle.tdl_arguments.specs.Requests.{Asked, FileNames, Values, classes_named, description_named, first_named, links_named, tables_named}
use Rattle.tdl_loads.specs.declared.loads.Linked.{Linked}
use Rattle.tdl_loads.specs.declared.loads.Tabled.{Tabled}
use Rattle.tdl_loads.specs.declared.loads.TablesWithSource.{TablesWithSource}
use Rattle.tdl_loads.specs.Loads.{FileGives, Gives, LinksGive, OtherGives, Stop, TablesGive, absent, judged, kind_of, merging, missing, named_up_to, of_verdict, rejected, too_large}
use Rattle.tdl_loads.specs.LoadsSupport.{GivesClasses, GivesLinks, GivesOthers, GivesPrefixes, GivesSettings, GivesThird, LinkedGive, SettingsGive, TabledGive, linked_with, links_up_to, others_up_to, rest_up_to, settings_up_to}
use Rattle.tdl_loads.proofs.LoadLemmas.{given_tables_one, linked_one, links_one, other_one, settings_one, tabled_one}
use Rattle.tdl_loads.proofs.LoadSteps.{Row}
use Rattle.gs_port.specs.Files.{FilesHeld}

-- ---- the kinds of the files at which a load stops

same_stop : {A : Type 0} (stop stop' : Stop) (given : Result A Stop) → given ≡ Err stop → given ≡ Err stop' → kind_of stop ≡ kind_of stop'
same_stop stop stop' given e f = let same : stop ≡ stop' = cc in ap kind_of same

verdict_kind : {A : Type 0} (kind : FileKind) (verdict : Result A FileFault) (stop : Stop) (given : Result A Stop) → given ≡ Err stop
    → given ≡ of_verdict kind verdict → kind_of stop ≡ kind
verdict_kind kind (Ok a) stop given e f = absurd (let g : given ≡ Ok a = f in cc)
verdict_kind kind (Err error) stop given e f = same_stop stop (rejected (record { kind = kind; error = error })) given e f

file_kind : {A : Type 0} (files : Option FilesHeld) (kind : FileKind) (Judges : List ℕ → Result A FileFault → Type 0) (name : List ℕ) (stop : Stop)
    → FileGives files kind Judges name (Err stop) → kind_of stop ≡ kind
file_kind files kind Judges name stop (absent none e) = same_stop stop (missing kind) _ refl e
file_kind files kind Judges name stop (too_large bytes is more e) = verdict_kind kind (Err Over) stop _ refl e
file_kind files kind Judges name stop (judged bytes verdict is few j e) = verdict_kind kind verdict stop _ refl e

gives_kind : {A : Type 0} (files : Option FilesHeld) (kind : FileKind) (Judges : List ℕ → Result A FileFault → Type 0) (Unnamed : Result A FileFault → Type 0) (name : Option (List ℕ)) (stop : Stop)
    → Gives files kind Judges Unnamed name (Err stop) → kind_of stop ≡ kind
gives_kind files kind Judges Unnamed None stop gives = verdict_kind kind gives.verdict stop _ refl gives.is
gives_kind files kind Judges Unnamed (Some name) stop gives = file_kind files kind Judges name stop gives

-- two steps, by the kinds at which each stops
then_kind : {A B : Type 0} (First : Result A Stop → Type 0) (Next : A → Result B Stop → Type 0) (Is : FileKind → Type 0)
    → ((stop : Stop) → First (Err stop) → Is (kind_of stop)) → ((a : A) (stop : Stop) → Next a (Err stop) → Is (kind_of stop))
    → (stop : Stop) → Then First Next (Err stop) → Is (kind_of stop)
then_kind {A = A} {B = B} First Next Is first next stop (rejects stop' gives e) =
    let given : Result B Stop = Err stop in
    let same : kind_of stop ≡ kind_of stop' = same_stop stop stop' given refl e in
    rw same (first stop' gives)
then_kind First Next Is first next stop (goes_on a gives n) = next a stop n

not_given : {A : Type 0} (stop : Stop) (a : A) (Is : Type 0) → Err stop ≡ Ok a → Is
not_given {A = A} stop a Is e = absurd (let given : Result A Stop = Err stop in let f : given ≡ Ok a = e in cc)

prefixes_kind : (files : Option FilesHeld) (names : FileNames) (given : TablesWithSource) (stop : Stop)
    → GivesPrefixes files names given (Err stop) → kind_of stop ≡ kind.Prefixes
prefixes_kind files names given = then_kind _ _ (λ k. k ≡ kind.Prefixes) (gives_kind files kind.Prefixes _ _ names.prefixes)
    (λ list stop e. not_given stop _ _ e)

abbrev OfThird : FileKind → Type 0
OfThird k = (k ≡ kind.Third) ⊎ (k ≡ kind.Merge)

abbrev OfOthers : FileKind → Type 0
OfOthers k = (k ≡ kind.Second) ⊎ OfThird k

abbrev OfLinks : FileKind → Type 0
OfLinks k = (k ≡ kind.Links) ⊎ OfOthers k

abbrev OfSettings : FileKind → Type 0
OfSettings k = (k ≡ kind.Describe) ⊎ (k ≡ kind.Classes)

merged_kind : (links : List Link) (verdict : Result (List Context) FileFault) (stop : Stop)
    → Err stop ≡ linked_with links (of_verdict kind.Merge verdict) → kind_of stop ≡ kind.Merge
merged_kind links (Ok contexts) stop e = not_given stop _ _ e
merged_kind links (Err error) stop e =
    let given : Result Linked Stop = Err stop in
    same_stop stop (rejected (record { kind = kind.Merge; error = error })) given refl e

third_kind : (files : Option FilesHeld) (names : FileNames) (ais : List AiRow) (voc : List ℕ) (links : List Link) (second : Option (List Link)) (stop : Stop)
    → GivesThird files names ais voc links second (Err stop) → OfThird (kind_of stop)
third_kind files names ais voc links second = then_kind _ _ OfThird (λ stop g. inl (gives_kind files kind.Third _ _ names.third stop g))
    (λ third stop e. inr (merged_kind links (merging ais voc links second third) stop e))

others_kind : (files : Option FilesHeld) (names : FileNames) (ais : List AiRow) (voc : List ℕ) (links : List Link) (stop : Stop)
    → GivesOthers files names ais voc links (Err stop) → OfOthers (kind_of stop)
others_kind files names ais voc links = then_kind _ _ OfOthers (λ stop g. inl (gives_kind files kind.Second _ _ names.second stop g))
    (λ second stop g. inr (third_kind files names ais voc links second stop g))

linked_kind : (files : Option FilesHeld) (names : FileNames) (values : Values) (ais : List AiRow) (stop : Stop)
    → LinkedGive files names values ais (Err stop) → OfLinks (kind_of stop)
linked_kind files names values ais = then_kind _ _ OfLinks (λ stop g. inl (gives_kind files kind.Links _ _ _ stop g))
    (λ links stop g. inr (others_kind files names ais values.voc links stop g))

settings_kind : (files : Option FilesHeld) (names : FileNames) (values : Values) (stop : Stop)
    → SettingsGive files names values (Err stop) → kind_of stop ≡ kind.Describe
settings_kind files names values = then_kind _ _ (λ k. k ≡ kind.Describe) (gives_kind files kind.Describe _ _ names.describe)
    (λ describe stop e. not_given stop _ _ e)

classes_kind : (files : Option FilesHeld) (asked : Asked) (tabled : Tabled) (linked : Linked) (settings : Settings) (stop : Stop)
    → GivesClasses files asked tabled linked settings (Err stop) → kind_of stop ≡ kind.Classes
classes_kind files asked tabled linked settings = then_kind _ _ (λ k. k ≡ kind.Classes)
    (gives_kind files kind.Classes _ _ asked.files.classes) (λ classes stop e. not_given stop _ _ e)

with_settings_kind : (files : Option FilesHeld) (asked : Asked) (tabled : Tabled) (linked : Linked) (stop : Stop)
    → GivesSettings files asked tabled linked (Err stop) → OfSettings (kind_of stop)
with_settings_kind files asked tabled linked = then_kind _ _ OfSettings
    (λ stop g. inl (settings_kind files asked.files asked.values stop g))
    (λ settings stop g. inr (classes_kind files asked tabled linked settings stop g))

rest_kind : (files : Option FilesHeld) (asked : Asked) (tabled : Tabled) (stop : Stop) → GivesLinks files asked tabled (Err stop)
    → OfLinks (kind_of stop) ⊎ OfSettings (kind_of stop)
rest_kind files asked tabled = then_kind _ _ (λ k. OfLinks k ⊎ OfSettings k)
    (λ stop g. inl (linked_kind files asked.files asked.values tabled.tables.ais stop g))
    (λ linked stop g. inr (with_settings_kind files asked tabled linked stop g))

-- ---- the names up to the file of a kind

others_after : (names : FileNames) (k : FileKind) → OfThird k → others_up_to k names ≡ option_to_list names.second ++ option_to_list names.third
others_after names k (inl e) = rw e refl
others_after names k (inr e) = rw e refl

links_after : (names : FileNames) (k : FileKind) → OfOthers k → links_up_to k names ≡ first_named names ++ others_up_to k names
links_after names k (inl e) = rw e refl
links_after names k (inr (inl e)) = rw e refl
links_after names k (inr (inr e)) = rw e refl

rest_first : (names : FileNames) (k : FileKind) → OfLinks k → rest_up_to k names ≡ links_up_to k names
rest_first names k (inl e) = rw e refl
rest_first names k (inr (inl e)) = rw e refl
rest_first names k (inr (inr (inl e))) = rw e refl
rest_first names k (inr (inr (inr e))) = rw e refl

rest_after : (names : FileNames) (k : FileKind) → OfSettings k → rest_up_to k names ≡ links_named names ++ settings_up_to k names
rest_after names k (inl e) = rw e refl
rest_after names k (inr e) = rw e refl

names_after : (names : FileNames) (k : FileKind) → OfLinks k ⊎ OfSettings k → named_up_to k names ≡ tables_named names ++ rest_up_to k names
names_after names k (inl (inl e)) = rw e refl
names_after names k (inl (inr (inl e))) = rw e refl
names_after names k (inl (inr (inr (inl e)))) = rw e refl
names_after names k (inl (inr (inr (inr e)))) = rw e refl
names_after names k (inr (inl e)) = rw e refl
names_after names k (inr (inr e)) = rw e refl

-- ---- the loads one after another, by the names up to the file of a kind

-- the tables, and then the prefixes
pub tabled_row : (names : FileNames)
    → Row (λ known. TablesGive known names.tables) (λ known. GivesPrefixes known names) (option_to_list names.tables)
    (λ k. option_to_list names.tables) (λ k. option_to_list names.prefixes) (λ k. named_up_to k names)
tabled_row names = record {
  first = λ files stop g. ap (λ k. named_up_to k names) (gives_kind files kind.Tables _ _ names.tables stop g);
  next = λ files given stop g. ap (λ k. named_up_to k names) (prefixes_kind files names given stop g);
  alike = λ known. given_tables_one known names.tables;
}

-- the second links, and then the third ones
pub others_row : (names : FileNames) (ais : List AiRow) (voc : List ℕ) (links : List Link)
    → Row (λ known. OtherGives known kind.Second ais voc names.second) (λ known. GivesThird known names ais voc links) (option_to_list names.second)
    (λ k. option_to_list names.second) (λ k. option_to_list names.third) (λ k. others_up_to k names)
others_row names ais voc links = record {
  first = λ files stop g. ap (λ k. others_up_to k names) (gives_kind files kind.Second _ _ names.second stop g);
  next = λ files second stop g. others_after names (kind_of stop) (third_kind files names ais voc links second stop g);
  alike = λ known. other_one known kind.Second ais voc names.second;
}

-- the links, and then the others
pub linked_row : (names : FileNames) (values : Values) (ais : List AiRow)
    → Row (λ known. LinksGive known values.templates ais values.voc names.links) (λ known. GivesOthers known names ais values.voc) (first_named names)
    (λ k. first_named names) (λ k. others_up_to k names) (λ k. links_up_to k names)
linked_row names values ais = record {
  first = λ files stop g. ap (λ k. links_up_to k names) (gives_kind files kind.Links _ _ _ stop g);
  next = λ files links stop g. links_after names (kind_of stop) (others_kind files names ais values.voc links stop g);
  alike = λ known. links_one known values.templates ais values.voc names.links;
}

-- the settings, and then the classes
pub settings_row : (asked : Asked) (tabled : Tabled) (linked : Linked)
    → Row (λ known. SettingsGive known asked.files asked.values) (λ known. GivesClasses known asked tabled linked) (description_named asked.files)
    (λ k. description_named asked.files) (λ k. classes_named asked.files) (λ k. settings_up_to k asked.files)
settings_row asked tabled linked = record {
  first = λ files stop g. ap (λ k. settings_up_to k asked.files) (settings_kind files asked.files asked.values stop g);
  next = λ files settings stop g. ap (λ k. settings_up_to k asked.files) (classes_kind files asked tabled linked settings stop g);
  alike = λ known. settings_one known asked.files asked.values;
}

-- the files of links, and then those after them
pub rest_row : (asked : Asked) (tabled : Tabled)
    → Row (λ known. LinkedGive known asked.files asked.values tabled.tables.ais) (λ known. GivesSettings known asked tabled) (links_named asked.files)
    (λ k. links_up_to k asked.files) (λ k. settings_up_to k asked.files) (λ k. rest_up_to k asked.files)
rest_row asked tabled = record {
  first = λ files stop g. rest_first asked.files (kind_of stop) (linked_kind files asked.files asked.values tabled.tables.ais stop g);
  next = λ files linked stop g. rest_after asked.files (kind_of stop) (with_settings_kind files asked tabled linked stop g);
  alike = λ known. linked_one known asked.files asked.values tabled.tables.ais;
}

-- the tables and the prefixes, and then all other files
pub all_row : (asked : Asked)
    → Row (λ known. TabledGive known asked.files) (λ known. GivesLinks known asked) (tables_named asked.files)
    (λ k. named_up_to k asked.files) (λ k. rest_up_to k asked.files) (λ k. named_up_to k asked.files)
all_row asked = record {
  first = λ files stop g. refl;
  next = λ files tabled stop g. names_after asked.files (kind_of stop) (rest_kind files asked tabled stop g);
  alike = λ known. tabled_one known asked.files;
}
