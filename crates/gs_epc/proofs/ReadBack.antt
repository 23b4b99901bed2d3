-- The fields that are read from the values that an EPC gives the items of an option: the fields of that EPC.
use Rattle.std.proofs.Common.{◌≡◌, ℕ, ◌%◌, ◌==◌, ◌&&◌, not, Bool, true, false, if◌then◌else◌, List, [], ◌∷◌, map, Option, Some, None, decimal, refl, ap, arith, inl, inr}
use Rattle.std.specs.List.{list_any}
use Rattle.std.specs.Option.{option_map_or}
use Rattle.std.proofs.lemmas.Bool.Decides.{nat_tests}
use Rattle.gs_ai.specs.Tables.{is_empty}
use Rattle.gs_chars.proofs.TruthsAndLists.{true_or_false}
use Rattle.gs_tables_document.specs.declared.document.Field.{Field}
use Rattle.gs_tables_document.specs.declared.document.Field.TheVariants.{Filter, Gcp, Rest, Piece, Total, Serial}
use Rattle.gs_tables_document.specs.declared.document.LevelName.{LevelName}
use Rattle.gs_tables_document.specs.declared.document.LevelName.TheVariants.{Binary, Tag, Pure}
use Rattle.gs_tables_document.specs.declared.document.OptInfo.{OptInfo}
use Rattle.gs_tables_document.specs.Items.{FieldItem, alone, fields_of}
use Rattle.gs_grammar.specs.declared.item.Item.{Item}
use Rattle.gs_grammar.specs.Items.{size_of_all}
use Rattle.gs_grammar.specs.Words.{decimal_value}
use Rattle.gs_grammar.proofs.Numbers.{value_decimal}
use Rattle.gs_tables.specs.KeptRules.{KeptOption}
use Rattle.gs_tables.specs.Rules.{is_digits, is_field, is_filter, is_gcp, is_one, items_of_field, keeps_gcp, keeps_level}
use Rattle.gs_tables.specs.Tables.{TableRows}
use Rattle.gs_epc.specs.declared.epc.Epc.{Epc}
use Rattle.gs_epc.specs.Candidates.{HasFilter, HasFilterOn, filter_on, is_asked, is_candidate, is_left_out, left_out, value_for, values_for}
use Rattle.gs_epc.specs.Epcs.{epc_of, value_at, value_of}
use Rattle.gs_epc.specs.Writes.{same_fields}
use Rattle.gs_epc.proofs.FieldPlaces.{named}
use Rattle.std.proofs.lemmas.Bool.{and_parts}
use Rattle.std.specs.Prelude.{option_map}

-- ---- the values of fields

-- the value of a field is its own if an item has the field
pub value_where : (field : Field) (fields : List (Option Field)) (v : Option Field → List ℕ)
    → value_at field fields (map v fields) ≡ (if list_any (is_field field) fields then Some (v (Some field)) else None)
value_where field [] v = refl
value_where field (name ∷ fields) v = elim (true_or_false (is_field field name)) [
  | inl e ↦ let same : name ≡ Some field = named field name e in rw (e, same) refl
  | inr e ↦ rw e (value_where field fields v)
]

-- a field has one item, so an item stands for it
pub one_stands : (field : Field) (test : Item → Bool) (items : List FieldItem) → is_one test (items_of_field field items) ≡ true
    → list_any (is_field field) (fields_of items) ≡ true
one_stands field test [] h = absurd (let e : false ≡ true = h in cc)
one_stands field test (i ∷ items) h = elim (true_or_false (is_field field i.0)) [
  | inl e ↦ rw e refl
  | inr e ↦ rw e (one_stands field test items (rw e at h))
]

-- a field has no item
pub none_stands : (field : Field) (items : List FieldItem) → is_empty (items_of_field field items) ≡ true → list_any (is_field field) (fields_of items) ≡ false
none_stands field [] h = refl
none_stands field (i ∷ items) h = elim (true_or_false (is_field field i.0)) [
  | inl e ↦ absurd (let f : false ≡ true = rw e at h in cc)
  | inr e ↦ rw e (none_stands field items (rw e at h))
]

-- ---- fields that keep everything

nothing_left : (text : List ℕ) → not (is_empty text) ≡ false → [] ≡ text
nothing_left [] h = refl
nothing_left (c ∷ text) h = absurd (let e : true ≡ false = h in cc)

-- a text that is not left out is the value of its field
kept_text : (field : Field) (fields : List (Option Field)) (v : Option Field → List ℕ) → is_left_out field fields (v (Some field)) ≡ false
    → value_of field fields (map v fields) ≡ v (Some field)
kept_text field fields v whole = elim (true_or_false (list_any (is_field field) fields)) [
  | inl e ↦ rw (value_where field fields v, e) refl
  | inr e ↦ rw (value_where field fields v, e) (nothing_left (v (Some field)) (rw e at whole))
]

pub record NoneLeft (fields : List (Option Field)) (epc : Epc) : Type 0 where
  pub rest : is_left_out Rest fields epc.rest ≡ false
  pub piece : is_left_out Piece fields epc.piece ≡ false
  pub total : is_left_out Total fields epc.total ≡ false
  pub serial : is_left_out Serial fields epc.serial ≡ false

none_left : (fields : List (Option Field)) (epc : Epc) → left_out fields epc ≡ None → NoneLeft fields epc
none_left fields epc h = elim (true_or_false (is_left_out Rest fields epc.rest)) [
  | inl e ↦ absurd (let f : Some Rest ≡ None = rw e at h in cc)
  | inr e ↦ let g = rw e at h in elim (true_or_false (is_left_out Piece fields epc.piece)) [
    | inl p ↦ absurd (let k : Some Piece ≡ None = rw p at g in cc)
    | inr p ↦ let i = rw p at g in elim (true_or_false (is_left_out Total fields epc.total)) [
      | inl t ↦ absurd (let k : Some Total ≡ None = rw t at i in cc)
      | inr t ↦ let j = rw t at i in elim (true_or_false (is_left_out Serial fields epc.serial)) [
        | inl f ↦ absurd (let k : Some Serial ≡ None = rw f at j in cc)
        | inr f ↦ record { rest = e; piece = p; total = t; serial = f }
      ]
    ]
  ]
]

-- ---- the filter

number_back : (filter : Option ℕ) → HasFilter filter → Some (decimal_value (option_map_or decimal filter [])) ≡ filter
number_back None has = absurd has
number_back (Some n) has = ap (λ (k : ℕ). Some k) (value_decimal n (omega arith))

filter_back : (level : LevelName) (epc : Epc) (parts : List FieldItem) (encoding : List ℕ) → keeps_level level encoding parts ≡ true
    → HasFilterOn level epc.filter → option_map decimal_value (value_at Filter (fields_of parts) (map (value_for level epc) (fields_of parts))) ≡ filter_on level epc.filter
unfolding keeps_level
filter_back Pure epc parts encoding h has =
    let none = none_stands Filter parts (and_parts (is_empty encoding) (is_empty (items_of_field Filter parts)) h).1 in
    rw (value_where Filter (fields_of parts) (value_for Pure epc), none) refl
filter_back Tag epc parts encoding h has =
    let one = one_stands Filter is_filter parts (and_parts (not (is_empty encoding)) (is_one is_filter (items_of_field Filter parts)) h).1 in
    rw (value_where Filter (fields_of parts) (value_for Tag epc), one) (number_back epc.filter has)
filter_back Binary epc parts encoding h has =
    let front = (and_parts (not (is_empty encoding) && is_one is_filter (items_of_field Filter parts)) (size_of_all (alone parts) % 16 == 0) h).0 in
    let one = one_stands Filter is_filter parts (and_parts (not (is_empty encoding)) (is_one is_filter (items_of_field Filter parts)) front).1 in
    rw (value_where Filter (fields_of parts) (value_for Binary epc), one) (number_back epc.filter has)

-- ---- the prefix

prefix_back : (set : TableRows) (level : LevelName) (items : List Item) (info : OptInfo) (v : Option Field → List ℕ)
    → KeptOption set level items info → value_of Gcp info.fields (map v info.fields) ≡ v (Some Gcp)
unfolding keeps_gcp
prefix_back set level items info v kept =
    let digits = (and_parts (is_gcp kept.of_kind.form kept.kind.lead info.gcp) (is_one (is_digits info.gcp) (items_of_field Gcp kept.parts)) kept.gcp).1 in
    let one = one_stands Gcp (is_digits info.gcp) kept.parts digits in
    rw (kept.fields_are, value_where Gcp (fields_of kept.parts) v, one) refl

-- ---- all fields

-- an option that is a candidate says the same fields
same_numbers : (a b c d : ℕ) (asked : Bool) → ((a == b) && (c == d) && asked) ≡ true → (a ≡ b) × (c ≡ d)
same_numbers a b c d asked h =
    let both = and_parts ((a == b) && (c == d)) asked h in
    let each = and_parts (a == b) (c == d) both.0 in
    let first = each.0 in
    let second = each.1 in
    (grind (arith, nat_tests), grind (arith, nat_tests))

abbrev epc_with : ℕ → List ℕ → Option ℕ → ℕ → List ℕ → List ℕ → List ℕ → List ℕ → List ℕ → Epc
epc_with kind encoding filter gcp prefix rest piece total serial =
    record { kind = kind; encoding = encoding; filter = filter; gcp = gcp; prefix = prefix; rest = rest; piece = piece; total = total; serial = serial }

equal_fields : (kind kind' : ℕ) (encoding : List ℕ) (filter filter' : Option ℕ) (gcp gcp' : ℕ) (prefix prefix' rest rest' piece piece' total total' serial serial' : List ℕ)
    → kind ≡ kind' → filter ≡ filter' → gcp ≡ gcp' → prefix ≡ prefix' → rest ≡ rest' → piece ≡ piece' → total ≡ total' → serial ≡ serial'
    → epc_with kind encoding filter gcp prefix rest piece total serial ≡ epc_with kind' encoding filter' gcp' prefix' rest' piece' total' serial'
equal_fields kind kind' encoding filter filter' gcp gcp' prefix prefix' rest rest' piece piece' total total' serial serial' a b c d e f g h = rw (a, b, c, d, e, f, g, h) refl

pub said_back : (set : TableRows) (level : LevelName) (items : List Item) (info : OptInfo) (epc : Epc) → KeptOption set level items info
    → is_candidate level epc info ≡ true → HasFilterOn level epc.filter → left_out info.fields epc ≡ None
    → epc_of info (values_for level epc info) ≡ same_fields level info epc
said_back set level items info epc kept passes has whole =
    let numbers = same_numbers info.kind epc.kind info.gcp epc.gcp (is_asked level epc.encoding info.encoding) passes in
    let none = none_left info.fields epc whole in
    let filter : option_map decimal_value (value_at Filter info.fields (values_for level epc info)) ≡ filter_on level epc.filter = rw kept.fields_are (filter_back level epc kept.parts info.encoding kept.of_level has) in
    equal_fields _ _ _ _ _ _ _ _ _ _ _ _ _ _ _ _ _ numbers.0 filter numbers.1 (prefix_back set level items info (value_for level epc) kept)
    (kept_text Rest info.fields (value_for level epc) none.rest)
    (kept_text Piece info.fields (value_for level epc) none.piece) (kept_text Total info.fields (value_for level epc) none.total)
    (kept_text Serial info.fields (value_for level epc) none.serial)
