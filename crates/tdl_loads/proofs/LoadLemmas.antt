-- The answers that files give: one answer, or two that differ only in the text of an ambiguous level.
use Rattle.std.proofs.Common.{◌≡◌, ℕ, ◌<◌, ◌≤◌, Bool, true, false, List, [], Option, Some, None, length, refl, sym, ◌∙◌, ap, inl, inr, arith}
use Rattle.std.specs.Prelude.{Result, Ok, Err, option_map}
use Rattle.std.proofs.lemmas.Bool.Decides.{leb_tells}
use Rattle.gs_ai.specs.declared.row.AiRow.{AiRow}
use Rattle.gs_class.specs.declared.error.ClassLoadFault.{ClassLoadFault}
use Rattle.gs_class.specs.Answers.{AreAlike as AlikeClasses, BuiltInAnswer as BuiltInClasses, LoadAnswer as ClassesAnswer, but_text as but_class_text, ruled_bytes, ruled_rows, same as same_classes}
use Rattle.gs_class.specs.BuiltIn.{built_in_rows}
use Rattle.gs_class.specs.Sets.{ClassRows, set_of}
use Rattle.gs_class.proofs.OneClass.{alike as both_alike, some_judged}
use Rattle.gs_class.proofs.RuledSets.{good_of_bytes, good_of_rows}
use Rattle.gs_tables_document.specs.declared.error.LoadFault.{LoadFault}
use Rattle.gs_links.specs.declared.link.Link.{Link}
use Rattle.gs_links.specs.Loads.{load_answer as store_answer}
use Rattle.gs_linkset.specs.Answers.{read_answer}
use Rattle.gs_linktext.specs.ReadAnswers.{HasReading, IsSameOrMemory}
use Rattle.gs_linktext.proofs.OneReading.{error_free, same_contexts, same_errors}
use Rattle.gs_linktext.proofs.SomeReading.{some_reading}
use Rattle.gs_port.specs.Files.{IsAbsent, IsFile, file_of}
use Rattle.gs_prefix.specs.Answers.{load_answer}
use Rattle.gs_tables.specs.Judgements.{Judged}
use Rattle.gs_tables.specs.Shapes.{AreAlike, BuiltInAnswer, HasMemory, LoadAnswer, Shape, but_text, same}
use Rattle.gs_tables.specs.Tables.{TableRows}
use Rattle.gs_tables.proofs.JudgedAnswers.{IsRuling, judged_alike, judged_some}
use Rattle.gs_tables.proofs.OneAnswer.{RuledRows, ruling_of_builtin, ruling_of_bytes}
use Rattle.gs_translate.specs.Steps.{Then, goes_on, rejects, reworded}
use Rattle.gs_translate.specs.StepsSupport.{HasSome}
use Rattle.gs_translate.proofs.StepLaws.{then_some}
use Rattle.tdl_messages.specs.declared.file_kind.FileKind.{FileKind}
use Rattle.tdl_messages.specs.declared.file_kind.FileKind.TheVariants as kind
use Rattle.tdl_messages.specs.declared.rejection.FileFault.{FileFault}
use Rattle.tdl_messages.specs.declared.rejection.FileFault.TheVariants.{Classes, LinkText, Over, Prefixes}
use Rattle.tdl_messages.specs.Rejections.{file_limit}
use Rattle.gs_http.specs.declared.resolver.Settings.{Settings}
use Rattle.tdl_arguments.specs.declared.command.Command.{Command}
use Rattle.tdl_arguments.specs.Requests.{Asked, FileNames, LinksName, Values, as_text, in_json, name_of_links}
use Rattle.tdl_loads.specs.declared.loads.Loaded.{Loaded}
use Rattle.tdl_loads.specs.declared.loads.TablesWithSource.{TablesWithSource}
use Rattle.tdl_loads.specs.declared.loads.Tabled.{Tabled}
use Rattle.tdl_loads.specs.Loads.{ClassesGive, FileGives, FilesGive, Gives, JudgesLinks, JudgesClasses, JudgesTables, LinksGive, PrefixesGive, Stop, TablesGive, UnnamedClasses, is_of_classes, links_verdict, absent, judged, missing, of_verdict, tables_verdict, too_large, JudgesFile, JudgesText, OtherGives, merging, other_verdict, read_as, store_verdict, unread}
use Rattle.tdl_loads.specs.Loads.{Ambiguity, ambiguous, of_classes, of_tables}
use Rattle.tdl_loads.specs.LoadsSupport.{AreBytes, AreLinked, AreNone, AreSettings, AreTabled, DescriptionGives, GivesClasses, GivesLinks, GivesOthers, GivesPrefixes, GivesSettings, GivesThird, IsLoadedOf, IsNoLink, IsNoOther, IsNoPrefix, JudgesOther, JudgesPrefixes, LinkedGive, PartsGive, SettingsGive, TabledGive, linked_with}
use Rattle.tdl_loads.specs.declared.loads.Linked.{Linked}
use Rattle.tdl_loads.proofs.FlatLoads.{flat_parts, parts_flat}

-- ---- at most one answer

same_file : (files : List (List ℕ × List ℕ)) (name bytes other : List ℕ) → IsFile (Some files) name bytes → IsFile (Some files) name other → bytes ≡ other
same_file files name bytes other a b = let e : Some bytes ≡ Some other = sym a ∙ b in cc

not_absent : (files : List (List ℕ × List ℕ)) (name bytes : List ℕ) → IsAbsent (Some files) name → IsFile (Some files) name bytes → ⊥
not_absent files name bytes a b = let e : None ≡ Some bytes = sym a ∙ b in cc

-- two answers of a step are one, or both stop at one ambiguity, by texts that may differ
pub data AlikeStops {A : Type 0} (one other : Result A Stop) : Type 0 where
  one_stop : one ≡ other → AlikeStops one other
  two_texts : (place : Ambiguity) (text text' : List ℕ) → one ≡ Err (ambiguous place text) → other ≡ Err (ambiguous place text') → AlikeStops one other

-- verdicts on a kind of file are alike for a run
abbrev AlikeVerdicts : {A : Type 0} → FileKind → (Result A FileFault → Type 0) → Type 0
AlikeVerdicts {A = A} kind Judges = (one other : Result A FileFault) → Judges one → Judges other → AlikeStops (of_verdict kind one) (of_verdict kind other)

file_one : {A : Type 0} (files : List (List ℕ × List ℕ)) (kind : FileKind) (Judges : List ℕ → Result A FileFault → Type 0) (name : List ℕ)
    → ((bytes : List ℕ) → AlikeVerdicts kind (Judges bytes)) → (a b : Result A Stop) → FileGives (Some files) kind Judges name a
    → FileGives (Some files) kind Judges name b → AlikeStops a b
file_one files kind Judges name one a b (absent n e) (absent n' e') = one_stop (e ∙ sym e')
file_one files kind Judges name one a b (absent n e) (too_large bytes is more e') = absurd (not_absent files name bytes n is)
file_one files kind Judges name one a b (absent n e) (judged bytes verdict is few j e') = absurd (not_absent files name bytes n is)
file_one files kind Judges name one a b (too_large bytes is more e) (absent n e') = absurd (not_absent files name bytes n is)
file_one files kind Judges name one a b (too_large bytes is more e) (too_large bytes' is' more' e') = one_stop (e ∙ sym e')
file_one files kind Judges name one a b (too_large bytes is more e) (judged bytes' verdict is' few j e') =
    absurd (let same : bytes ≡ bytes' = same_file files name bytes bytes' is is' in let f : length bytes ≤ file_limit kind = rw same few in omega arith)
file_one files kind Judges name one a b (judged bytes verdict is few j e) (absent n e') = absurd (not_absent files name bytes n is)
file_one files kind Judges name one a b (judged bytes verdict is few j e) (too_large bytes' is' more e') =
    absurd (let same : bytes ≡ bytes' = same_file files name bytes bytes' is is' in let f : file_limit kind < length bytes = rw same more in omega arith)
file_one files kind Judges name one a b (judged bytes verdict is few j e) (judged bytes' verdict' is' few' j' e') =
    let same : bytes ≡ bytes' = same_file files name bytes bytes' is is' in
    let moved : Judges bytes verdict' = rw same j' in
    rw (e, e') (one bytes verdict verdict' j moved)

gives_one : {A : Type 0} (files : List (List ℕ × List ℕ)) (kind : FileKind) (Judges : List ℕ → Result A FileFault → Type 0) (Unnamed : Result A FileFault → Type 0) (name : Option (List ℕ))
    → ((bytes : List ℕ) → AlikeVerdicts kind (Judges bytes)) → AlikeVerdicts kind Unnamed → (a b : Result A Stop)
    → Gives (Some files) kind Judges Unnamed name a → Gives (Some files) kind Judges Unnamed name b → AlikeStops a b
gives_one files kind Judges Unnamed None one other a b x y = rw (x.is, y.is) (other x.verdict y.verdict x.judged y.judged)
gives_one files kind Judges Unnamed (Some name) one other a b x y = file_one files kind Judges name one a b x y

abbrev tables_stop : List ℕ → Result TableRows LoadFault → Result TablesWithSource Stop
tables_stop source answer = of_verdict kind.Tables (tables_verdict source answer)

alike_answers : (source : List ℕ) (one other : Result TableRows LoadFault) → AreAlike one other → AlikeStops (tables_stop source one) (tables_stop source other)
alike_answers source one other (same e) = one_stop (ap (tables_stop source) e)
alike_answers source one other (but_text name i j text text' e f) =
    two_texts (of_tables name i j) text text' (ap (tables_stop source) e) (ap (tables_stop source) f)

tables_one : (source : List ℕ) (Ruled : Result TableRows LoadFault → Type 0) → IsRuling Ruled → AlikeVerdicts kind.Tables (JudgesTables source (Judged Ruled))
tables_one source Ruled ruling a b x y =
    rw (x.is, y.is) (alike_answers source x.answer y.answer (judged_alike Ruled ruling x.answer y.answer x.is_answer y.is_answer x.enough y.enough))

-- a value and a stop are not alike, and two values that are alike are one
pub not_alike : {A : Type 0} (stop : Stop) (a : A) → AlikeStops (Ok a) (Err stop) → ⊥
not_alike stop a (one_stop e) = let f : Ok a ≡ Err stop = e in cc
not_alike stop a (two_texts place text text' e f) = let g : Ok a ≡ Err (ambiguous place text) = e in cc

pub same_given : {A : Type 0} (a a' : A) → AlikeStops (Ok a) (Ok a') → a ≡ a'
same_given a a' (one_stop e) = let f : Ok a ≡ Ok a' = e in cc
same_given a a' (two_texts place text text' e f) = absurd (let g : Ok a ≡ Err (ambiguous place text) = e in cc)

-- the answers of a step are alike
abbrev pub AreAlikeAll : {A : Type 0} → (Result A Stop → Type 0) → Type 0
AreAlikeAll {A = A} Step = (one other : Result A Stop) → Step one → Step other → AlikeStops one other

then_alike : {A B : Type 0} (First : Result A Stop → Type 0) (Next : A → Result B Stop → Type 0) → AreAlikeAll First
    → ((a : A) → AreAlikeAll (Next a)) → AreAlikeAll (Then First Next)
then_alike {A = A} {B = B} First Next alike next x y (rejects stop gives e) (rejects stop' gives' e') = rw (e, e')
    (same_rejection stop stop' (alike (Err stop) (Err stop') gives gives'))
  where
    same_rejection : (stop stop' : Stop) → AlikeStops {A = A} (Err stop) (Err stop') → AlikeStops {A = B} (Err stop) (Err stop')
    same_rejection stop stop' (one_stop f) = let is : stop ≡ stop' = cc in one_stop (ap Err is)
    same_rejection stop stop' (two_texts place text text' f g) =
        let is : stop ≡ ambiguous place text = cc in
        let is' : stop' ≡ ambiguous place text' = cc in
        two_texts place text text' (ap Err is) (ap Err is')
then_alike First Next alike next x y (rejects stop gives e) (goes_on a gives' n') = absurd (not_alike stop a (alike (Ok a) (Err stop) gives' gives))
then_alike First Next alike next x y (goes_on a gives n) (rejects stop gives' e') = absurd (not_alike stop a (alike (Ok a) (Err stop) gives gives'))
then_alike First Next alike next x y (goes_on a gives n) (goes_on a' gives' n') =
    let same : a ≡ a' = same_given a a' (alike (Ok a) (Ok a') gives gives') in
    let moved : Next a y = rw same n' in
    next a x y n moved

prefixes_one : (files : List (List ℕ × List ℕ)) (name : Option (List ℕ)) → AreAlikeAll (PrefixesGive (Some files) name)
prefixes_one files name = gives_one files kind.Prefixes JudgesPrefixes IsNoPrefix name
    (λ bytes x y e f. one_stop (ap (of_verdict kind.Prefixes) (e ∙ sym f)))
    (λ x y e f. one_stop (ap (of_verdict kind.Prefixes) (e ∙ sym f)))

text_one : (templates : Bool) (ais : List AiRow) (voc bytes : List ℕ) → AlikeVerdicts kind.Links (JudgesText templates ais voc bytes)
text_one templates ais voc bytes a b (read_as c x e) (read_as d y f) =
    one_stop (ap (of_verdict kind.Links) (e ∙ ap (λ contexts. store_verdict templates ais (store_answer ais voc contexts)) (same_contexts bytes c d x y) ∙ sym f))
text_one templates ais voc bytes a b (read_as c x e) (unread error not y f) = absurd (not (error_free bytes x.written error x.document x.error_free y))
text_one templates ais voc bytes a b (unread error not x e) (read_as d y f) = absurd (not (error_free bytes y.written error y.document y.error_free x))
text_one templates ais voc bytes a b (unread error not x e) (unread other not' y f) = by (same_errors bytes error other x y)
  where
    by : IsSameOrMemory error other → AlikeStops (of_verdict kind.Links a) (of_verdict kind.Links b)
    by (inl equal) = one_stop (ap (of_verdict kind.Links) (e ∙ ap (λ x. Err (LinkText x)) equal ∙ sym f))
    by (inr (inl none)) = absurd (not none)
    by (inr (inr none)) = absurd (not' none)

json_one : (templates : Bool) (ais : List AiRow) (voc bytes : List ℕ) → AlikeVerdicts kind.Links (JudgesLinks templates ais voc bytes)
json_one templates ais voc bytes x y e f = one_stop (ap (of_verdict kind.Links) (e ∙ sym f))

file_links_one : (templates : Bool) (ais : List AiRow) (voc : List ℕ) (name : Option LinksName) (bytes : List ℕ)
    → AlikeVerdicts kind.Links (JudgesFile templates ais voc name bytes)
file_links_one templates ais voc None bytes = json_one templates ais voc bytes
file_links_one templates ais voc (Some (in_json name)) bytes = json_one templates ais voc bytes
file_links_one templates ais voc (Some (as_text name)) bytes = text_one templates ais voc bytes

pub links_one : (files : List (List ℕ × List ℕ)) (templates : Bool) (ais : List AiRow) (voc : List ℕ) (name : Option LinksName)
    → AreAlikeAll (LinksGive (Some files) templates ais voc name)
links_one files templates ais voc name = gives_one files kind.Links (JudgesFile templates ais voc name) IsNoLink (option_map name_of_links name)
    (file_links_one templates ais voc name)
    (λ x y e f. one_stop (ap (of_verdict kind.Links) (e ∙ sym f)))

pub other_one : (files : List (List ℕ × List ℕ)) (kind : FileKind) (ais : List AiRow) (voc : List ℕ) (name : Option (List ℕ))
    → AreAlikeAll (OtherGives (Some files) kind ais voc name)
other_one files kind ais voc name = gives_one files kind (JudgesOther ais voc) IsNoOther name
    (λ bytes x y e f. one_stop (ap (of_verdict kind) (e ∙ sym f)))
    (λ x y e f. one_stop (ap (of_verdict kind) (e ∙ sym f)))

third_one : (files : List (List ℕ × List ℕ)) (names : FileNames) (ais : List AiRow) (voc : List ℕ) (links : List Link) (second : Option (List Link))
    → AreAlikeAll (GivesThird (Some files) names ais voc links second)
third_one files names ais voc links second = then_alike (OtherGives (Some files) kind.Third ais voc names.third) (AreLinked ais voc links second)
    (other_one files kind.Third ais voc names.third)
    (λ third x y e f. one_stop (e ∙ sym f))

others_one : (files : List (List ℕ × List ℕ)) (names : FileNames) (ais : List AiRow) (voc : List ℕ) (links : List Link)
    → AreAlikeAll (GivesOthers (Some files) names ais voc links)
others_one files names ais voc links = then_alike (OtherGives (Some files) kind.Second ais voc names.second) (GivesThird (Some files) names ais voc links)
    (other_one files kind.Second ais voc names.second)
    (third_one files names ais voc links)

pub linked_one : (files : List (List ℕ × List ℕ)) (names : FileNames) (values : Values) (ais : List AiRow)
    → AreAlikeAll (LinkedGive (Some files) names values ais)
linked_one files names values ais = then_alike (LinksGive (Some files) values.templates ais values.voc names.links)
    (GivesOthers (Some files) names ais values.voc)
    (links_one files values.templates ais values.voc names.links)
    (others_one files names ais values.voc)

description_one : (files : List (List ℕ × List ℕ)) (name : Option (List ℕ)) → AreAlikeAll (DescriptionGives (Some files) name)
description_one files name = gives_one files kind.Describe AreBytes AreNone name
    (λ bytes x y e f. one_stop (ap (of_verdict kind.Describe) (e ∙ sym f)))
    (λ x y e f. one_stop (ap (of_verdict kind.Describe) (e ∙ sym f)))

pub settings_one : (files : List (List ℕ × List ℕ)) (names : FileNames) (values : Values) → AreAlikeAll (SettingsGive (Some files) names values)
settings_one files names values = then_alike (DescriptionGives (Some files) names.describe) (AreSettings values)
    (description_one files names.describe)
    (λ describe x y e f. one_stop (e ∙ sym f))

abbrev classes_stop : Result ClassRows ClassLoadFault → Result ClassRows Stop
classes_stop answer = of_verdict kind.Classes (reworded Classes answer)

alike_classes : (one other : Result ClassRows ClassLoadFault) → AlikeClasses one other → AlikeStops (classes_stop one) (classes_stop other)
alike_classes one other (same_classes e) = one_stop (ap classes_stop e)
alike_classes one other (but_class_text i j text text' e f) = two_texts (of_classes i j) text text' (ap classes_stop e) (ap classes_stop f)

judged_classes_one : (Answer : Result ClassRows ClassLoadFault → Type 0)
    → ((one other : Result ClassRows ClassLoadFault) → Answer one → Answer other → AlikeClasses one other)
    → AlikeVerdicts kind.Classes (JudgesClasses Answer)
judged_classes_one Answer both a b x y = rw (x.is, y.is) (alike_classes x.answer y.answer (both x.answer y.answer x.is_answer y.is_answer))

unnamed_classes_one : (ais : List AiRow) (works : Bool) → AlikeVerdicts kind.Classes (UnnamedClasses ais works)
unnamed_classes_one ais true = judged_classes_one (BuiltInClasses ais) (both_alike (ruled_rows ais built_in_rows))
unnamed_classes_one ais false = λ x y e f. one_stop (ap (of_verdict kind.Classes) (e ∙ sym f))

classes_one : (files : List (List ℕ × List ℕ)) (ais : List AiRow) (command : Command) (name : Option (List ℕ))
    → AreAlikeAll (ClassesGive (Some files) ais command name)
classes_one files ais command name = gives_one files kind.Classes (λ bytes. JudgesClasses (ClassesAnswer ais bytes))
    (UnnamedClasses ais (is_of_classes command)) name
    (λ bytes. judged_classes_one (ClassesAnswer ais bytes) (both_alike (ruled_bytes ais bytes)))
    (unnamed_classes_one ais (is_of_classes command))

with_classes_one : (files : List (List ℕ × List ℕ)) (asked : Asked) (tabled : Tabled) (linked : Linked) (settings : Settings)
    → AreAlikeAll (GivesClasses (Some files) asked tabled linked settings)
with_classes_one files asked tabled linked settings = then_alike
    (ClassesGive (Some files) tabled.tables.ais asked.command asked.files.classes) (IsLoadedOf tabled linked settings)
    (classes_one files tabled.tables.ais asked.command asked.files.classes)
    (λ classes x y e f. one_stop (e ∙ sym f))

with_settings_one : (files : List (List ℕ × List ℕ)) (asked : Asked) (tabled : Tabled) (linked : Linked)
    → AreAlikeAll (GivesSettings (Some files) asked tabled linked)
with_settings_one files asked tabled linked = then_alike (SettingsGive (Some files) asked.files asked.values) (GivesClasses (Some files) asked tabled linked)
    (settings_one files asked.files asked.values)
    (with_classes_one files asked tabled linked)

with_links_one : (files : List (List ℕ × List ℕ)) (asked : Asked) (tabled : Tabled) → AreAlikeAll (GivesLinks (Some files) asked tabled)
with_links_one files asked tabled = then_alike (LinkedGive (Some files) asked.files asked.values tabled.tables.ais) (GivesSettings (Some files) asked tabled)
    (linked_one files asked.files asked.values tabled.tables.ais)
    (with_settings_one files asked tabled)

with_prefixes_one : (files : List (List ℕ × List ℕ)) (names : FileNames) (given : TablesWithSource) → AreAlikeAll (GivesPrefixes (Some files) names given)
with_prefixes_one files names given = then_alike (PrefixesGive (Some files) names.prefixes) (AreTabled given)
    (prefixes_one files names.prefixes)
    (λ list x y e f. one_stop (e ∙ sym f))

pub given_tables_one : (files : List (List ℕ × List ℕ)) (name : Option (List ℕ)) → AreAlikeAll (TablesGive (Some files) name)
given_tables_one files name = gives_one files kind.Tables (λ bytes. JudgesTables bytes (LoadAnswer bytes)) (JudgesTables [] BuiltInAnswer) name
    (λ bytes. tables_one bytes (Shape bytes) (ruling_of_bytes bytes))
    (tables_one [] RuledRows ruling_of_builtin)

pub tabled_one : (files : List (List ℕ × List ℕ)) (names : FileNames) → AreAlikeAll (TabledGive (Some files) names)
tabled_one files names = then_alike (TablesGive (Some files) names.tables) (GivesPrefixes (Some files) names)
    (given_tables_one files names.tables)
    (with_prefixes_one files names)

parts_one : (files : List (List ℕ × List ℕ)) (asked : Asked) → AreAlikeAll (PartsGive (Some files) asked)
parts_one files asked = then_alike (TabledGive (Some files) asked.files) (GivesLinks (Some files) asked)
    (tabled_one files asked.files)
    (with_links_one files asked)

pub files_one : (files : List (List ℕ × List ℕ)) (asked : Asked) (a b : Result Loaded Stop) → FilesGive (Some files) asked a
    → FilesGive (Some files) asked b → AlikeStops a b
files_one files asked a b x y = parts_one files asked a b (flat_parts (Some files) asked a x) (flat_parts (Some files) asked b y)

-- ---- an answer

file_some_by : {A : Type 0} (files : Option (List (List ℕ × List ℕ))) (kind : FileKind) (Judges : List ℕ → Result A FileFault → Type 0) (name bytes : List ℕ)
    → IsFile files name bytes → ((bytes : List ℕ) → HasSome (Judges bytes)) → HasSome (FileGives files kind Judges name)
file_some_by files kind Judges name bytes is some = elim (leb_tells (length bytes) (file_limit kind)) as (λ _. HasSome (FileGives files kind Judges name)) [
  | inl few ↦ let j = some bytes in (of_verdict kind j.0, judged bytes j.0 is few.1 j.1 refl)
  | inr more ↦ (of_verdict kind (Err Over), too_large bytes is more.1 refl)
]

-- a known file, or its absence
file_some_in : {A : Type 0} (files : List (List ℕ × List ℕ)) (kind : FileKind) (Judges : List ℕ → Result A FileFault → Type 0) (name : List ℕ) (found : Option (List ℕ))
    → file_of files name ≡ found → ((bytes : List ℕ) → HasSome (Judges bytes)) → HasSome (FileGives (Some files) kind Judges name)
file_some_in files kind Judges name None e some = (Err (missing kind), absent e refl)
file_some_in files kind Judges name (Some bytes) e some = file_some_by (Some files) kind Judges name bytes e some

file_some : {A : Type 0} (files : Option (List (List ℕ × List ℕ))) (kind : FileKind) (Judges : List ℕ → Result A FileFault → Type 0) (name : List ℕ)
    → ((bytes : List ℕ) → HasSome (Judges bytes)) → HasSome (FileGives files kind Judges name)
file_some None kind Judges name some = file_some_by None kind Judges name [] tt some
file_some (Some files) kind Judges name some = file_some_in files kind Judges name (file_of files name) refl some

gives_some : {A : Type 0} (files : Option (List (List ℕ × List ℕ))) (kind : FileKind) (Judges : List ℕ → Result A FileFault → Type 0) (Unnamed : Result A FileFault → Type 0) (name : Option (List ℕ))
    → ((bytes : List ℕ) → HasSome (Judges bytes)) → HasSome Unnamed → HasSome (Gives files kind Judges Unnamed name)
gives_some files kind Judges Unnamed None some other = (of_verdict kind other.0, record { verdict = other.0; judged = other.1; is = refl })
gives_some files kind Judges Unnamed (Some name) some other = file_some files kind Judges name some

tables_some : (source : List ℕ) (Answer : Result TableRows LoadFault → Type 0)
    → ((answer : Result TableRows LoadFault) × HasMemory answer × Answer answer) → HasSome (JudgesTables source Answer)
tables_some source Answer some = (tables_verdict source some.0, record { answer = some.0; enough = some.1; is_answer = some.2; is = refl })

prefixes_some : (files : Option (List (List ℕ × List ℕ))) (name : Option (List ℕ)) → HasSome (PrefixesGive files name)
prefixes_some files name = gives_some files kind.Prefixes JudgesPrefixes IsNoPrefix name (λ bytes. (reworded Prefixes (load_answer bytes), refl)) (Ok [], refl)

text_some : (templates : Bool) (ais : List AiRow) (voc bytes : List ℕ) → HasReading bytes → HasSome (JudgesText templates ais voc bytes)
text_some templates ais voc bytes (inl found) = (store_verdict templates ais (store_answer ais voc found.0), read_as found.0 found.1 refl)
text_some templates ais voc bytes (inr none) = (Err (LinkText none.0), unread none.0 none.1 none.2 refl)

file_links_some : (templates : Bool) (ais : List AiRow) (voc : List ℕ) (name : Option LinksName) (bytes : List ℕ)
    → HasSome (JudgesFile templates ais voc name bytes)
file_links_some templates ais voc None bytes = (links_verdict templates ais voc (read_answer bytes), refl)
file_links_some templates ais voc (Some (in_json name)) bytes = (links_verdict templates ais voc (read_answer bytes), refl)
file_links_some templates ais voc (Some (as_text name)) bytes = text_some templates ais voc bytes (some_reading bytes)

links_some : (files : Option (List (List ℕ × List ℕ))) (templates : Bool) (ais : List AiRow) (voc : List ℕ) (name : Option LinksName)
    → HasSome (LinksGive files templates ais voc name)
links_some files templates ais voc name = gives_some files kind.Links (JudgesFile templates ais voc name) IsNoLink
    (option_map name_of_links name) (file_links_some templates ais voc name) (Ok [], refl)

other_some : (files : Option (List (List ℕ × List ℕ))) (kind : FileKind) (ais : List AiRow) (voc : List ℕ) (name : Option (List ℕ))
    → HasSome (OtherGives files kind ais voc name)
other_some files kind ais voc name = gives_some files kind (JudgesOther ais voc) IsNoOther name
    (λ bytes. (other_verdict (links_verdict false ais voc (read_answer bytes)), refl)) (Ok None, refl)

third_some : (files : Option (List (List ℕ × List ℕ))) (names : FileNames) (ais : List AiRow) (voc : List ℕ) (links : List Link) (second : Option (List Link))
    → HasSome (GivesThird files names ais voc links second)
third_some files names ais voc links second = then_some (OtherGives files kind.Third ais voc names.third) (AreLinked ais voc links second)
    (other_some files kind.Third ais voc names.third)
    (λ third gives. (linked_with links (of_verdict kind.Merge (merging ais voc links second third)), refl))

others_some : (files : Option (List (List ℕ × List ℕ))) (names : FileNames) (ais : List AiRow) (voc : List ℕ) (links : List Link)
    → HasSome (GivesOthers files names ais voc links)
others_some files names ais voc links = then_some (OtherGives files kind.Second ais voc names.second) (GivesThird files names ais voc links)
    (other_some files kind.Second ais voc names.second)
    (λ second gives. third_some files names ais voc links second)

linked_some : (files : Option (List (List ℕ × List ℕ))) (names : FileNames) (values : Values) (ais : List AiRow) → HasSome (LinkedGive files names values ais)
linked_some files names values ais = then_some (LinksGive files values.templates ais values.voc names.links) (GivesOthers files names ais values.voc)
    (links_some files values.templates ais values.voc names.links)
    (λ links gives. others_some files names ais values.voc links)

description_some : (files : Option (List (List ℕ × List ℕ))) (name : Option (List ℕ)) → HasSome (DescriptionGives files name)
description_some files name = gives_some files kind.Describe AreBytes AreNone name (λ bytes. (Ok (Some bytes), refl)) (Ok None, refl)

settings_some : (files : Option (List (List ℕ × List ℕ))) (names : FileNames) (values : Values) → HasSome (SettingsGive files names values)
settings_some files names values = then_some (DescriptionGives files names.describe) (AreSettings values)
    (description_some files names.describe)
    (λ describe gives. (Ok (record { voc = values.voc; describe = describe; templates = values.templates }), refl))

classes_some_by : (ais : List AiRow) (works : Bool) → HasSome (UnnamedClasses ais works)
classes_some_by ais true = let some = some_judged (ruled_rows ais built_in_rows)
    (good_of_rows ais built_in_rows) in (reworded Classes some.0, record { answer = some.0; is_answer = some.1; is = refl })
classes_some_by ais false = (Ok (set_of []), refl)

classes_some : (files : Option (List (List ℕ × List ℕ))) (ais : List AiRow) (command : Command) (name : Option (List ℕ))
    → HasSome (ClassesGive files ais command name)
classes_some files ais command name = gives_some files kind.Classes (λ bytes. JudgesClasses (ClassesAnswer ais bytes))
    (UnnamedClasses ais (is_of_classes command)) name
    (λ bytes. let some = some_judged (ruled_bytes ais bytes) (good_of_bytes ais bytes) in (reworded Classes some.0, record { answer = some.0; is_answer = some.1; is = refl }))
    (classes_some_by ais (is_of_classes command))

with_classes_some : (files : Option (List (List ℕ × List ℕ))) (asked : Asked) (tabled : Tabled) (linked : Linked) (settings : Settings)
    → HasSome (GivesClasses files asked tabled linked settings)
with_classes_some files asked tabled linked settings = then_some (ClassesGive files tabled.tables.ais asked.command asked.files.classes)
    (IsLoadedOf tabled linked settings)
    (classes_some files tabled.tables.ais asked.command asked.files.classes)
    (λ classes gives. (Ok (record { tables = tabled.tables; source = tabled.source; prefixes = tabled.prefixes; links = linked.links; merged = linked.merged; settings = settings; classes = classes }), refl))

with_settings_some : (files : Option (List (List ℕ × List ℕ))) (asked : Asked) (tabled : Tabled) (linked : Linked)
    → HasSome (GivesSettings files asked tabled linked)
with_settings_some files asked tabled linked = then_some (SettingsGive files asked.files asked.values) (GivesClasses files asked tabled linked)
    (settings_some files asked.files asked.values)
    (λ settings gives. with_classes_some files asked tabled linked settings)

with_links_some : (files : Option (List (List ℕ × List ℕ))) (asked : Asked) (tabled : Tabled) → HasSome (GivesLinks files asked tabled)
with_links_some files asked tabled = then_some (LinkedGive files asked.files asked.values tabled.tables.ais) (GivesSettings files asked tabled)
    (linked_some files asked.files asked.values tabled.tables.ais)
    (λ linked gives. with_settings_some files asked tabled linked)

with_prefixes_some : (files : Option (List (List ℕ × List ℕ))) (names : FileNames) (given : TablesWithSource) → HasSome (GivesPrefixes files names given)
with_prefixes_some files names given = then_some (PrefixesGive files names.prefixes) (AreTabled given)
    (prefixes_some files names.prefixes)
    (λ list gives. (Ok (record { tables = given.tables; source = given.source; prefixes = list }), refl))

tabled_some : (files : Option (List (List ℕ × List ℕ))) (names : FileNames) → HasSome (TabledGive files names)
tabled_some files names = then_some (TablesGive files names.tables) (GivesPrefixes files names)
    (gives_some files kind.Tables (λ bytes. JudgesTables bytes (LoadAnswer bytes)) (JudgesTables [] BuiltInAnswer) names.tables
    (λ bytes. tables_some bytes (LoadAnswer bytes) (judged_some (Shape bytes) (ruling_of_bytes bytes)))
    (tables_some [] BuiltInAnswer (judged_some RuledRows ruling_of_builtin)))
    (λ given gives. with_prefixes_some files names given)

parts_some : (files : Option (List (List ℕ × List ℕ))) (asked : Asked) → HasSome (PartsGive files asked)
parts_some files asked = then_some (TabledGive files asked.files) (GivesLinks files asked)
    (tabled_some files asked.files)
    (λ tabled gives. with_links_some files asked tabled)

pub files_some : (files : Option (List (List ℕ × List ℕ))) (asked : Asked) → HasSome (FilesGive files asked)
files_some files asked = let p = parts_some files asked in (p.0, parts_flat files asked p.0 p.1)
