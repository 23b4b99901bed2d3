-- An EPC that is read from a tag has a filter value, and an EPC with a filter value names its encoding.
use Rattle.std.proofs.Common.{◌≡◌, ◌<◌, ◌≤◌, ◌==◌, ◌&&◌, ◌||◌, ◌%◌, ◌^◌, ℕ, not, true, false, List, [], ◌∷◌, Option, Some, None, option_map, bytes_eq, refl, sym, ap, ◌∙◌, arith}
use Rattle.std.specs.Prelude.{IfSome}
use Rattle.std.proofs.lemmas.Fmt.{decimal_digit}
use Rattle.gs_ai.specs.Tables.{is_empty}
use Rattle.gs_chars.proofs.TruthsAndLists.{and_first, and_second, equal_bytes}
use Rattle.gs_grammar.specs.declared.item.Item.{Item}
use Rattle.gs_grammar.specs.Derivations.{EachWord, one_item}
use Rattle.gs_grammar.specs.Items.{size_of_all}
use Rattle.gs_grammar.specs.Words.{decimal_value}
use Rattle.gs_grammar.proofs.Numbers.{value_decimal}
use Rattle.gs_tables_document.specs.declared.document.Field.TheVariants.{Filter, Gcp, Rest, Piece, Total, Serial}
use Rattle.gs_tables_document.specs.declared.document.LevelName.{LevelName}
use Rattle.gs_tables_document.specs.declared.document.LevelName.TheVariants.{Binary, Tag, Pure}
use Rattle.gs_tables_document.specs.declared.document.OptInfo.{OptInfo}
use Rattle.gs_tables_document.specs.Items.{FieldItem, alone, fields_of}
use Rattle.gs_tables.specs.KeptRules.{KeptOption}
use Rattle.gs_tables.specs.Rules.{is_filter, is_one, items_of_field, keeps_level}
use Rattle.gs_tables.specs.Tables.{IsShaped, TableRows}
use Rattle.gs_tables.proofs.KeptSets.{options_kept}
use Rattle.gs_epc.specs.declared.epc.Epc.{Epc}
use Rattle.gs_epc.specs.Candidates.{HasFilter, is_asked, is_candidate}
use Rattle.gs_epc.specs.Epcs.{IsOfSet, value_at}
use Rattle.gs_epc.specs.Filters.{IsFilter}
use Rattle.gs_epc.specs.Readings.{Says}
use Rattle.gs_epc.specs.Writes.{same_fields}
use Rattle.gs_epc.proofs.FieldRules.{filter_kept}
use Rattle.std.proofs.lemmas.Bool.{not-true}

-- ---- the value of the one item that stands for the filter

there : (parts : List FieldItem) (values words : List (List ℕ)) → EachWord (alone parts) values words
    → is_one is_filter (items_of_field Filter parts) ≡ true → (value : List ℕ) × (value_at Filter (fields_of parts) values ≡ Some value)
there [] values words each one = absurd (let e : false ≡ true = one in cc)
there ((None, item) ∷ parts) values words (one_item _ value w _ values' words' word each) one = there parts values' words' each one
there ((Some Filter, item) ∷ parts) values words (one_item _ value w _ values' words' word each) one = (value, refl)
there ((Some Gcp, item) ∷ parts) values words (one_item _ value w _ values' words' word each) one = there parts values' words' each one
there ((Some Rest, item) ∷ parts) values words (one_item _ value w _ values' words' word each) one = there parts values' words' each one
there ((Some Piece, item) ∷ parts) values words (one_item _ value w _ values' words' word each) one = there parts values' words' each one
there ((Some Total, item) ∷ parts) values words (one_item _ value w _ values' words' word each) one = there parts values' words' each one
there ((Some Serial, item) ∷ parts) values words (one_item _ value w _ values' words' word each) one = there parts values' words' each one

nothing_there : (parts : List FieldItem) (values : List (List ℕ)) → is_empty (items_of_field Filter parts) ≡ true
    → value_at Filter (fields_of parts) values ≡ None
nothing_there [] values h = refl
nothing_there (part ∷ parts) [] h = refl
nothing_there ((None, item) ∷ parts) (value ∷ values) h = nothing_there parts values h
nothing_there ((Some Filter, item) ∷ parts) (value ∷ values) h = absurd (let e : false ≡ true = h in cc)
nothing_there ((Some Gcp, item) ∷ parts) (value ∷ values) h = nothing_there parts values h
nothing_there ((Some Rest, item) ∷ parts) (value ∷ values) h = nothing_there parts values h
nothing_there ((Some Piece, item) ∷ parts) (value ∷ values) h = nothing_there parts values h
nothing_there ((Some Total, item) ∷ parts) (value ∷ values) h = nothing_there parts values h
nothing_there ((Some Serial, item) ∷ parts) (value ∷ values) h = nothing_there parts values h

has_of : (given : Option (List ℕ)) (value : List ℕ) → given ≡ Some value → IfSome given IsFilter → HasFilter (option_map decimal_value given)
has_of given value is filter =
    let digit : IsFilter value = rw is at filter in
    let small = digit.small in
    let low : digit.number < 2 ^ 64 = omega arith in
    let number : decimal_value value ≡ digit.number = ap decimal_value (digit.text ∙ sym (decimal_digit digit.number (omega arith))) ∙ value_decimal digit.number low in
    rw is (let most : decimal_value value ≤ 7 = omega arith in most)

-- ---- an option of tags has one such item

pub one_in_bits : (encoding : List ℕ) (parts : List FieldItem) → keeps_level Binary encoding parts ≡ true
    → is_one is_filter (items_of_field Filter parts) ≡ true
unfolding keeps_level
one_in_bits encoding parts h =
    let front = and_first (not (is_empty encoding) && is_one is_filter (items_of_field Filter parts)) (size_of_all (alone parts) % 16 == 0) h in
    and_second (not (is_empty encoding)) (is_one is_filter (items_of_field Filter parts)) front

pub one_in_tags : (encoding : List ℕ) (parts : List FieldItem) → keeps_level Tag encoding parts ≡ true → is_one is_filter (items_of_field Filter parts) ≡ true
unfolding keeps_level
one_in_tags encoding parts h = and_second (not (is_empty encoding)) (is_one is_filter (items_of_field Filter parts)) h

kept_filter : (set : TableRows) (level : LevelName) (items : List Item) (info : OptInfo) (values words : List (List ℕ))
    → (kept : KeptOption set level items info) → EachWord items values words → is_one is_filter (items_of_field Filter kept.parts) ≡ true
    → HasFilter (option_map decimal_value (value_at Filter info.fields values))
kept_filter set level items info values words kept held one =
    let each : EachWord (alone kept.parts) values words = rw kept.items_are at held in
    let is = there kept.parts values words each one in
    let place : value_at Filter info.fields values ≡ Some is.0 = ap (λ fields. value_at Filter fields values) kept.fields_are ∙ is.1 in
    has_of (value_at Filter info.fields values) is.0 place (filter_kept set level items info values words kept held)

-- ---- an EPC that is read from a tag

pub filter_said : (set : TableRows) (level : LevelName) (symbols : List ℕ) (epc : Epc) → IsShaped set
    → ((encoding : List ℕ) (parts : List FieldItem) → keeps_level level encoding parts ≡ true → is_one is_filter (items_of_field Filter parts) ≡ true)
    → Says set level symbols epc → HasFilter epc.filter
filter_said set level symbols epc shaped one says =
    let d = says.read.derivation in
    let of_level = rw says.read.of_option at d.of_level in
    let kept = options_kept set level shaped says.option d.items says.info of_level says.said in
    let held = rw says.read.of_values at d.derives.each in
    let has = kept_filter set level d.items says.info says.values d.words kept held (one says.info.encoding kept.parts kept.of_level) in
    rw says.fields has

-- ---- an EPC with a filter value names its encoding

named : (level : LevelName) (encoding : List ℕ) (parts : List FieldItem) (values : List (List ℕ)) → keeps_level level encoding parts ≡ true
    → HasFilter (option_map decimal_value (value_at Filter (fields_of parts) values)) → is_empty encoding ≡ false
unfolding keeps_level
named Binary encoding parts values h has =
    let front = and_first (not (is_empty encoding) && is_one is_filter (items_of_field Filter parts)) (size_of_all (alone parts) % 16 == 0) h in
    not-true (is_empty encoding) (and_first (not (is_empty encoding)) (is_one is_filter (items_of_field Filter parts)) front)
named Tag encoding parts values h has = not-true (is_empty encoding) (and_first (not (is_empty encoding)) (is_one is_filter (items_of_field Filter parts)) h)
named Pure encoding parts values h has =
    let none = nothing_there parts values (and_second (is_empty encoding) (is_empty (items_of_field Filter parts)) h) in
    absurd (rw none at has)

pub names_encoding : (set : TableRows) (epc : Epc) → IsShaped set → IsOfSet set epc → HasFilter epc.filter → is_empty epc.encoding ≡ false
names_encoding set epc shaped of has =
    let kept = options_kept set of.level shaped of.option of.items of.info of.of_level of.said in
    let same : epc.filter ≡ option_map decimal_value (value_at Filter (fields_of kept.parts) of.values) = ap (λ (e : Epc). e.filter) of.fields ∙ ap (λ fields. option_map decimal_value (value_at Filter fields of.values)) kept.fields_are in
    let filter = rw same at has in
    ap (λ (e : Epc). is_empty e.encoding) of.fields ∙ named of.level of.info.encoding kept.parts of.values kept.of_level filter

-- ---- a candidate has the requested encoding

asked_name : (asked name : List ℕ) → is_empty asked ≡ false → (is_empty asked || bytes_eq asked name) ≡ true → name ≡ asked
asked_name asked name some h = let same : bytes_eq asked name ≡ true = rw some at h in sym (equal_bytes asked name same)

renamed : (epc : Epc) (name : List ℕ) → name ≡ epc.encoding → record epc { encoding = name } ≡ epc
renamed epc name is = ap (λ n. record epc { encoding = n }) is

pub same_in_bits : (epc : Epc) (info : OptInfo) → is_candidate Binary epc info ≡ true → is_empty epc.encoding ≡ false → same_fields Binary info epc ≡ epc
same_in_bits epc info passes some =
    renamed epc info.encoding (asked_name epc.encoding info.encoding some (and_second ((info.kind == epc.kind) && (info.gcp == epc.gcp)) (is_asked Binary epc.encoding info.encoding) passes))

pub same_in_tags : (epc : Epc) (info : OptInfo) → is_candidate Tag epc info ≡ true → is_empty epc.encoding ≡ false → same_fields Tag info epc ≡ epc
same_in_tags epc info passes some =
    renamed epc info.encoding (asked_name epc.encoding info.encoding some (and_second ((info.kind == epc.kind) && (info.gcp == epc.gcp)) (is_asked Tag epc.encoding info.encoding) passes))
