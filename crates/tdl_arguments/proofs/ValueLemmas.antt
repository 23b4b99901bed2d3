-- Values that are named are in range.
use Rattle.std.proofs.Common.{◌≡◌, ℕ, ◌≤◌, ◌&&◌, ◌||◌, Bool, true, false, List, [], ◌∷◌, Option, None, Some, refl, sym, ◌∙◌, ap, inl, inr}
use Rattle.std.specs.List.{list_any}
use Rattle.std.specs.Prelude.{IfSome, bytes_eq, codes, if◌then◌else◌, is_some, nat_le, not, option_and_then, option_to_list, unwrap_or}
use Rattle.std.proofs.lemmas.Bool.{leb-true, and_parts}
use Rattle.gs_chars.proofs.TruthsAndLists.{equal_bytes, true_or_false}
use Rattle.gs_dlink.specs.Stems.{stem_ok}
use Rattle.gs_grammar.specs.Words.{decimal_value}
use Rattle.gs_ident.specs.Links.{canonical_stem}
use Rattle.gs_translate.specs.Targets.{FitsFilter}
use Rattle.gs_translate.specs.Translations.{AreInOrder}
use Rattle.tdl_arguments.specs.declared.name.Name.{Name}
use Rattle.tdl_arguments.specs.declared.name.Name.TheVariants.{Tables, Prefixes, Links, Describe, Classes, Voc, Listen, Count, Filter, Gcp, Encoding, KeysOnly, Stem, LinkText, Second, Third, Templates}
use Rattle.tdl_arguments.specs.declared.name.NameRow.{NameRow}
use Rattle.tdl_arguments.specs.declared.command.Command.TheVariants.{Migrate}
use Rattle.tdl_arguments.specs.Commands.{names_of}
use Rattle.tdl_arguments.specs.Names.{AreTaken, has_required, in_range, is_given, look_up, name_named, name_word, none_taken, one_taken, row_takes, takes}
use Rattle.tdl_arguments.specs.Ranges.{filter_of, is_numeral, is_vocabulary}
use Rattle.tdl_arguments.specs.Requests.{Asked, WordsInOrder, options_of}

-- ---- names by their words

name_read : (name : Name) → name_named (name_word name) ≡ Some name
name_read Tables = refl
name_read Prefixes = refl
name_read Links = refl
name_read LinkText = refl
name_read Second = refl
name_read Third = refl
name_read Describe = refl
name_read Classes = refl
name_read Voc = refl
name_read Templates = refl
name_read Listen = refl
name_read Count = refl
name_read Filter = refl
name_read Gcp = refl
name_read Encoding = refl
name_read KeysOnly = refl
name_read Stem = refl

same_name : (one other : Name) → name_word one ≡ name_word other → one ≡ other
same_name one other e = let f : Some one ≡ Some other = sym (name_read one) ∙ ap name_named e ∙ name_read other in cc

-- ---- values that are taken

-- a name that takes a pair is the one of its word, whose range has the value
taken_by_name : (other name : Name) (n value : List ℕ) → (bytes_eq (name_word other) n && in_range other value) ≡ true → bytes_eq n (name_word name) ≡ true → in_range name value ≡ true
taken_by_name other name n value t e =
    let both = and_parts (bytes_eq (name_word other) n) (in_range other value) t in
    let same = same_name other name (equal_bytes (name_word other) n both.0 ∙ equal_bytes n (name_word name) e) in
    rw same at both.1

-- one of some names takes a pair
taken_by_one : (others : List Name) (name : Name) (n value : List ℕ) → list_any (λ other. bytes_eq (name_word other) n && in_range other value) others ≡ true
    → bytes_eq n (name_word name) ≡ true → in_range name value ≡ true
taken_by_one [] name n value t e = absurd (let f : false ≡ true = t in cc)
taken_by_one (other ∷ others) name n value t e = elim (true_or_false (bytes_eq (name_word other) n && in_range other value)) as (λ _. in_range name value ≡ true) [
  | inl here ↦ taken_by_name other name n value here e
  | inr none ↦ taken_by_one others name n value (rw none at t) e
]

-- a row that takes a pair has its name, whose range has the value
taken_in_range : (rows : List NameRow) (pairs : List (List ℕ × List ℕ)) (name : Name) (n value : List ℕ) → takes rows n value pairs ≡ true
    → bytes_eq n (name_word name) ≡ true → in_range name value ≡ true
taken_in_range [] pairs name n value t e = absurd (let f : false ≡ true = t in cc)
taken_in_range (row ∷ rows) pairs name n value t e = elim (true_or_false (not (is_given pairs row) && row_takes row n value)) as
    (λ _. in_range name value ≡ true) [
      | inl here ↦ taken_by_one (row.name ∷ option_to_list row.instead) name n value (and_parts (not (is_given pairs row)) (row_takes row n value) here).1 e
      | inr none ↦ taken_in_range rows pairs name n value (rw none at t) e
    ]

-- the value of a name that is taken is in its range
pub named_in_range : (rows : List NameRow) (pairs : List (List ℕ × List ℕ)) (name : Name) (value : List ℕ) → AreTaken rows pairs
    → look_up (name_word name) pairs ≡ Some value → in_range name value ≡ true
named_in_range rows pairs name value none_taken e = absurd (let f : None ≡ Some value = e in cc)
named_in_range rows pairs name value (one_taken n v others takes_it rest) e = elim (true_or_false (bytes_eq n (name_word name))) as
    (λ _. in_range name value ≡ true) [
      | inl is ↦
          let found : Some v ≡ Some value = rw is at e in
          let same : v ≡ value = cc in
          rw same at (taken_in_range rows others name n v takes_it is)
      | inr differs ↦ named_in_range rows others name value rest (rw differs at e)
    ]

-- ---- the options of translations

within_by : (a b c : Bool) (number greatest : ℕ) → c ≡ nat_le number greatest → IfSome (if a && (b && c) then Some number else None) (λ n. n ≤ greatest)
within_by false b c number greatest e = tt
within_by true false c number greatest e = tt
within_by true true false number greatest e = tt
within_by true true true number greatest e = leb-true number greatest (sym e)

filter_fits : (named : Option (List ℕ)) → FitsFilter (option_and_then filter_of named)
filter_fits None = tt
filter_fits (Some word) = within_by (is_numeral word) (nat_le 0 (decimal_value word)) (nat_le (decimal_value word) 7) (decimal_value word) 7 refl

stem_fits : (named : Option (List ℕ)) → ((stem : List ℕ) → named ≡ Some stem → stem_ok stem ≡ true) → stem_ok (unwrap_or named canonical_stem) ≡ true
unfolding stem_ok
stem_fits None ok = refl
stem_fits (Some stem) ok = ok stem refl

-- the options that arguments name are valid
pub options_fit : (words : List (List ℕ)) (asked : Asked) → WordsInOrder words asked → AreInOrder (options_of asked.values)
options_fit words asked o =
    let a = o.asks in
    let stem = look_up (name_word Stem) a.pairs in
    rw a.is (record {
      filter = filter_fits (look_up (name_word Filter) a.pairs);
      stem = stem_fits stem (λ s e. named_in_range _ a.pairs Stem s a.of_rows.taken e);
    })

-- ---- the vocabulary

vocabulary_by : (named : Option (List ℕ)) → ((value : List ℕ) → named ≡ Some value → is_vocabulary value ≡ true)
    → is_vocabulary (unwrap_or named (codes "https://ref.gs1.org/voc/")) ≡ true
vocabulary_by None ok = refl
vocabulary_by (Some value) ok = ok value refl

-- the vocabulary that arguments name is one
pub vocabulary_fits : (words : List (List ℕ)) (asked : Asked) → WordsInOrder words asked → is_vocabulary asked.values.voc ≡ true
vocabulary_fits words asked o =
    let a = o.asks in
    rw a.is (vocabulary_by (look_up (name_word Voc) a.pairs) (λ value e. named_in_range _ a.pairs Voc value a.of_rows.taken e))

-- ---- the tables that are migrated

-- the only name of the only required row is given
required_one : (given : Bool) → ((given || false) && true) ≡ true → given ≡ true
required_one true e = refl
required_one false e = e

-- arguments that ask for a migration name the tables
pub tables_fit : (words : List (List ℕ)) (asked : Asked) → WordsInOrder words asked → asked.command ≡ Migrate → is_some asked.files.tables ≡ true
tables_fit words asked o migrates =
    let a = o.asks in
    let command : o.command ≡ Migrate = sym (ap (λ (x : Asked). x.command) a.is) ∙ migrates in
    let required : has_required (names_of Migrate) a.pairs ≡ true = rw command at a.required in
    rw a.is (required_one (is_some (look_up (name_word Tables) a.pairs)) required)
