-- The consequence of the rules of tables for the filter of an option: its value is one digit.
use Rattle.std.proofs.Common.{◌≡◌, ℕ, ◌&&◌, ◌==◌, ◌≤◌, not, Bool, true, false, List, [], ◌∷◌, map, Some, None, decimal, refl, ◌∙◌, arith}
use Rattle.std.specs.Prelude.{IfSome, ◌%◌}
use Rattle.std.specs.List.{list_all}
use Rattle.std.proofs.lemmas.Bool.Decides.{nat_tests}
use Rattle.std.proofs.lemmas.Fmt.{decimal_digit}
use Rattle.gs_chars.proofs.TruthsAndLists.{and_first, and_second}
use Rattle.gs_ai.specs.Tables.{is_empty}
use Rattle.gs_tables_document.specs.declared.document.Field.TheVariants.{Filter, Gcp, Rest, Piece, Total, Serial}
use Rattle.gs_tables_document.specs.declared.document.LevelName.{LevelName}
use Rattle.gs_tables_document.specs.declared.document.LevelName.TheVariants.{Binary, Tag, Pure}
use Rattle.gs_tables_document.specs.declared.document.OptInfo.{OptInfo}
use Rattle.gs_tables_document.specs.Items.{FieldItem}
use Rattle.gs_grammar.specs.declared.item.Item.{Item}
use Rattle.gs_grammar.specs.declared.item.Item.TheVariants.{Int, Num}
use Rattle.gs_grammar.specs.Derivations.{EachWord, no_item, one_item}
use Rattle.gs_grammar.specs.Items.{size_of_all}
use Rattle.gs_grammar.specs.Words.{Word}
use Rattle.gs_tables.specs.KeptRules.{KeptOption}
use Rattle.gs_tables.specs.Rules.{is_filter, is_one, items_of_field, keeps_level}
use Rattle.gs_tables.specs.Tables.{TableRows}
use Rattle.gs_epc.specs.Epcs.{value_at}
use Rattle.gs_epc.specs.Filters.{IsFilter}

-- ---- the word of a filter

digit_of : (number : ℕ) (value : List ℕ) → number ≤ 7 → value ≡ decimal number → IsFilter value
digit_of number value small text = record { number = number; small = small; text = text ∙ decimal_digit number (omega arith) }

seven : (number most : ℕ) → number ≤ most → (most == 7) ≡ true → number ≤ 7
seven number most small h = grind (arith, nat_tests)

word_of_filter : (item : Item) (value w : List ℕ) → is_filter item ≡ true → Word item value w → IsFilter value
word_of_filter (Int most) value w h word = digit_of word.0.0 value (seven word.0.0 most word.0.1.small h) word.0.1.text
word_of_filter (Num bits most) value w h word = digit_of word.0 value (seven word.0 most word.1.0.small (and_second (bits == 3) (most == 7) h)) word.1.0.text
word_of_filter item value w h word = absurd (let g : false ≡ true = h in cc)

-- the value of the filter, if each item of it is a filter value
filter_of_items : (items : List FieldItem) (values words : List (List ℕ)) → EachWord (map (λ (i : FieldItem). i.1) items) values words
    → list_all is_filter (items_of_field Filter items) ≡ true
    → IfSome (value_at Filter (map (λ (i : FieldItem). i.0) items) values) IsFilter
filter_of_items [] values words no_item all = tt
filter_of_items ((None, item) ∷ items) values words (one_item _ value w _ values' words' word each) all = filter_of_items items values' words' each all
filter_of_items ((Some Filter, item) ∷ items) values words (one_item _ value w _ values' words' word each) all = word_of_filter item value w
    (and_first (is_filter item) (list_all is_filter (items_of_field Filter items)) all) word
filter_of_items ((Some Gcp, item) ∷ items) values words (one_item _ value w _ values' words' word each) all = filter_of_items items values' words' each all
filter_of_items ((Some Rest, item) ∷ items) values words (one_item _ value w _ values' words' word each) all = filter_of_items items values' words' each all
filter_of_items ((Some Piece, item) ∷ items) values words (one_item _ value w _ values' words' word each) all = filter_of_items items values' words' each all
filter_of_items ((Some Total, item) ∷ items) values words (one_item _ value w _ values' words' word each) all = filter_of_items items values' words' each all
filter_of_items ((Some Serial, item) ∷ items) values words (one_item _ value w _ values' words' word each) all = filter_of_items items values' words' each all

-- ---- the filter items of a row

one_of_all : (test : Item → Bool) (items : List Item) → is_one test items ≡ true → list_all test items ≡ true
one_of_all test [] h = refl
one_of_all test (item ∷ []) h = rw h refl
one_of_all test (item ∷ other ∷ items) h = absurd (let g : false ≡ true = h in cc)

none_of_all : (test : Item → Bool) (items : List Item) → is_empty items ≡ true → list_all test items ≡ true
none_of_all test [] h = refl
none_of_all test (item ∷ items) h = absurd (let g : false ≡ true = h in cc)

all_filters : (level : LevelName) (encoding : List ℕ) (items : List FieldItem) → keeps_level level encoding items ≡ true
    → list_all is_filter (items_of_field Filter items) ≡ true
unfolding keeps_level
all_filters Binary encoding items h =
    let front = and_first (not (is_empty encoding) && is_one is_filter (items_of_field Filter items)) (size_of_all (map (λ (i : FieldItem). i.1) items) % 16 == 0) h in
    one_of_all is_filter (items_of_field Filter items) (and_second (not (is_empty encoding)) (is_one is_filter (items_of_field Filter items)) front)
all_filters Tag encoding items h = one_of_all is_filter (items_of_field Filter items)
    (and_second (not (is_empty encoding)) (is_one is_filter (items_of_field Filter items)) h)
all_filters Pure encoding items h = none_of_all is_filter (items_of_field Filter items)
    (and_second (is_empty encoding) (is_empty (items_of_field Filter items)) h)

-- ---- the filter of an option that satisfies the rules

pub filter_kept : (set : TableRows) (level : LevelName) (items : List Item) (info : OptInfo) (values words : List (List ℕ))
    → KeptOption set level items info → EachWord items values words → IfSome (value_at Filter info.fields values) IsFilter
filter_kept set level items info values words kept held =
    rw kept.fields_are (filter_of_items kept.parts values words (rw kept.items_are at held) (all_filters level info.encoding kept.parts kept.of_level))
