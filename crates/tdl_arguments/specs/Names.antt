-- Pairs of a name and its value among the arguments of the command line.
use Rattle.std.specs.Prelude.{◌≡◌, ℕ, ◌&&◌, ◌||◌, nat_lt, Bool, true, not, List, [], ◌∷◌, length, codes, Option, is_some, option_to_list, bytes_eq}
use Rattle.std.specs.List.{find, list_all, list_any}
use Rattle.std.specs.Option.{option_map}
use Rattle.gs_dlink.specs.Stems.{stem_ok}
use Rattle.tdl_arguments.specs.declared.name.Name.{Name}
use Rattle.tdl_arguments.specs.declared.name.Name.TheVariants.{Tables, Prefixes, Links, Describe, Classes, Voc, Listen, Count, Filter, Gcp, Encoding, KeysOnly, Stem, LinkText, Second, Third, Templates}
use Rattle.tdl_arguments.specs.declared.name.NameRow.{NameRow}
use Rattle.tdl_arguments.specs.Ranges.{count_of, filter_of, gcp_of, is_vocabulary}

-- trusted, own: pairs of a name and its value
abbrev pub NamedPairs : Type 0
NamedPairs = List (List ℕ × List ℕ)

-- trusted, own: the word of a name
abbrev pub name_word : Name → List ℕ
name_word Tables = codes "--tables"
name_word Prefixes = codes "--prefixes"
name_word Links = codes "--links"
name_word LinkText = codes "--link-text"
name_word Second = codes "--second"
name_word Third = codes "--third"
name_word Describe = codes "--describe"
name_word Classes = codes "--classes"
name_word Voc = codes "--voc"
name_word Templates = codes "--templates"
name_word Listen = codes "--listen"
name_word Count = codes "--count"
name_word Filter = codes "--filter"
name_word Gcp = codes "--gcp"
name_word Encoding = codes "--encoding"
name_word KeysOnly = codes "--keys-only"
name_word Stem = codes "--stem"

-- trusted, own: all names
abbrev pub names : List Name
names = Tables ∷ Prefixes ∷ Links ∷ LinkText ∷ Second ∷ Third ∷ Describe ∷ Classes ∷ Voc ∷ Templates ∷ Listen ∷ Count ∷ Filter ∷ Gcp ∷ Encoding ∷ KeysOnly ∷ Stem ∷ []

-- trusted, own: the name that has the word
abbrev pub name_named : List ℕ → Option Name
name_named word = find (λ (name : Name). bytes_eq word (name_word name)) names

-- trusted, own: holds if `value` is `yes` or `no`
abbrev pub is_yes_or_no : List ℕ → Bool
is_yes_or_no value = bytes_eq value (codes "yes") || bytes_eq value (codes "no")

-- trusted, own: Holds if the name may have `value`. A file may have any name, and an address any text.
abbrev pub in_range : Name → List ℕ → Bool
in_range Tables value = true
in_range Prefixes value = true
in_range Links value = true
in_range LinkText value = true
in_range Second value = true
in_range Third value = true
in_range Describe value = true
in_range Classes value = true
in_range Voc value = is_vocabulary value
in_range Templates value = is_yes_or_no value
in_range Listen value = true
in_range Count value = is_some (count_of value)
in_range Filter value = is_some (filter_of value)
in_range Gcp value = is_some (gcp_of value)
in_range Encoding value = nat_lt 0 (length value)
in_range KeysOnly value = is_yes_or_no value
in_range Stem value = stem_ok value

-- trusted, own: the value of the first pair with the name
abbrev pub look_up : List ℕ → NamedPairs → Option (List ℕ)
look_up name pairs = option_map (λ (pair : List ℕ × List ℕ). pair.1) (find (λ (pair : List ℕ × List ℕ). bytes_eq pair.0 name) pairs)

-- trusted, own: holds if `pairs` have a value of `name`
abbrev pub is_named : NamedPairs → Name → Bool
is_named pairs name = is_some (look_up (name_word name) pairs)

-- trusted, own: holds if one of the names of `row`, its own or the one instead, has `property`
abbrev pub has_name : (Name → Bool) → NameRow → Bool
has_name property row = list_any property (row.name ∷ option_to_list row.instead)

-- trusted, own: holds if `row` takes the name `word` with `value`
abbrev pub row_takes : NameRow → List ℕ → List ℕ → Bool
row_takes row word value = has_name (λ name. bytes_eq (name_word name) word && in_range name value) row

-- trusted, own: holds if `pairs` have a value of one of the names of `row`
abbrev pub is_given : NamedPairs → NameRow → Bool
is_given pairs row = has_name (is_named pairs) row

-- trusted, own: holds if a row takes the name `word` with `value`, and none of its names has a value among `others`
abbrev pub takes : List NameRow → List ℕ → List ℕ → NamedPairs → Bool
takes rows name value others = list_any (λ (row : NameRow). not (is_given others row) && row_takes row name value) rows

-- trusted, own: holds if the arguments are the pairs, each a name and its value
pub data ArePairs : List (List ℕ) → NamedPairs → Type 0 where
  no_pair : ArePairs [] []
  one_pair : (name value : List ℕ) (words : List (List ℕ)) (pairs : NamedPairs) → ArePairs words pairs → ArePairs (name ∷ value ∷ words) ((name, value) ∷ pairs)

-- trusted, own: holds if `rows` take each of the pairs, each row at most one
pub data AreTaken (rows : List NameRow) : NamedPairs → Type 0 where
  none_taken : AreTaken rows []
  one_taken : (name value : List ℕ) (pairs : NamedPairs) → takes rows name value pairs ≡ true → AreTaken rows pairs → AreTaken rows ((name, value) ∷ pairs)

-- trusted, own: holds if the arguments `words` are `pairs`, which `rows` take, each row at most one
pub record AreOfRows (rows : List NameRow) (words : List (List ℕ)) (pairs : NamedPairs) : Type 0 where
  pub are : ArePairs words pairs
  pub taken : AreTaken rows pairs

-- holds if the arguments are pairs that the rows take, each row at most one
abbrev pub HasPairs : List NameRow → List (List ℕ) → Type 0
HasPairs rows words = (pairs : NamedPairs) × AreOfRows rows words pairs

-- holds if the arguments are not pairs that the rows take, each row at most one
abbrev pub HasNoPairs : List NameRow → List (List ℕ) → Type 0
HasNoPairs rows words = (pairs : NamedPairs) → AreOfRows rows words pairs → ⊥

-- holds if the arguments are not pairs, or the pairs have this property
abbrev pub OfPairs : List (List ℕ) → (NamedPairs → Type 0) → Type 0
OfPairs words Fact = (pairs : NamedPairs) → ArePairs words pairs → Fact pairs

-- trusted, own: holds if each required row of `rows` is given by one of its names
abbrev pub has_required : List NameRow → NamedPairs → Bool
has_required rows pairs = list_all (λ (row : NameRow). not row.required || is_given pairs row) rows
