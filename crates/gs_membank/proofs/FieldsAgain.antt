-- The values that an option gives its items for an EPC that values of these items named: the same values.
use Rattle.std.proofs.Common.{◌≡◌, ◌-◌, ◌==◌, ◌≤◌, ℕ, Bool, true, false, List, [], ◌∷◌, length, map, Option, Some, None, slice_get, zero, suc, decimal, refl, sym, ap, ap₂, ◌∙◌, arith, inl, inr}
use Rattle.std.specs.Prelude.{IfSome}
use Rattle.std.specs.List.{list_any}
use Rattle.std.proofs.lemmas.Fmt.{decimal_digit}
use Rattle.gs_ai.specs.Tables.{is_empty}
use Rattle.gs_chars.proofs.TruthsAndLists.{true_or_false}
use Rattle.gs_grammar.specs.declared.item.Item.{Item}
use Rattle.gs_grammar.specs.Derivations.{EachWord}
use Rattle.gs_grammar.specs.Words.{decimal_value}
use Rattle.gs_grammar.proofs.Numbers.{value_decimal}
use Rattle.gs_tables_document.specs.declared.document.Field.{Field}
use Rattle.gs_tables_document.specs.declared.document.Field.TheVariants.{Filter, Gcp, Rest, Piece, Total, Serial}
use Rattle.gs_tables_document.specs.declared.document.LevelName.TheVariants.{Binary}
use Rattle.gs_tables_document.specs.declared.document.OptInfo.{OptInfo}
use Rattle.gs_tables_document.specs.Items.{FieldItem, alone, fields_of}
use Rattle.gs_tables.specs.declared.form.KeyForm.{KeyForm}
use Rattle.gs_tables.specs.declared.form.KeyForm.TheVariants.{Digits, Characters}
use Rattle.gs_tables.specs.declared.form.Behind.TheVariants.{Nothing, Further, Tail}
use Rattle.gs_tables.specs.declared.form.Room.{Room}
use Rattle.gs_tables.specs.declared.form.Room.TheVariants as room
use Rattle.gs_tables.specs.Forms.{serial_room}
use Rattle.gs_tables.specs.KeptRules.{KeptOption}
use Rattle.gs_tables.specs.Rules.{has_room, is_digits, is_field, is_filter, is_free, is_gcp, is_number, is_one, items_of_field, keeps_further, keeps_gcp, keeps_rest, keeps_serial}
use Rattle.gs_tables.specs.Tables.{TableRows}
use Rattle.gs_epc.specs.Candidates.{is_left_out, left_out, value_for, values_for}
use Rattle.gs_epc.specs.Epcs.{epc_of, value_at, value_of}
use Rattle.gs_epc.specs.Filters.{IsFilter}
use Rattle.gs_epc.proofs.FieldRules.{filter_kept}
use Rattle.gs_membank.proofs.FilterLemmas.{one_in_bits}
use Rattle.gs_membank.proofs.FullWords.{empty_value, word_at}
use Rattle.gs_tables.proofs.FoundItems.{field_itself as own_field}
use Rattle.std.proofs.lemmas.Bool.{and_parts, or_parts}

-- ---- a field has one item at most

one_at_most : (test : Item → Bool) (items : List Item) → is_one test items ≡ true → length items ≤ 1
one_at_most test [] h = omega arith
one_at_most test (item ∷ []) h = omega arith
one_at_most test (item ∷ other ∷ items) h = absurd (let e : false ≡ true = h in cc)

none_at_all : (items : List Item) → is_empty items ≡ true → length items ≤ 1
none_at_all [] h = omega arith
none_at_all (item ∷ items) h = absurd (let e : false ≡ true = h in cc)

one_gcp : (form : KeyForm) (lead n : ℕ) (items : List Item) → keeps_gcp form lead n items ≡ true → length items ≤ 1
unfolding keeps_gcp
one_gcp form lead n items h = one_at_most (is_digits n) items (and_parts (is_gcp form lead n) (is_one (is_digits n) items) h).1

one_rest : (form : KeyForm) (n : ℕ) (items : List Item) → keeps_rest form n items ≡ true → length items ≤ 1
unfolding keeps_rest
one_rest (Digits digits tail) n items h = elim (true_or_false (digits - n == 0)) [
  | inl e ↦ none_at_all items (rw e at h)
  | inr e ↦ one_at_most (is_digits (digits - n)) items (rw e at h)
]
one_rest (Characters most) n items h = one_at_most (is_free (most - n)) items h

one_serial : (room : Option Room) (items : List Item) → keeps_serial room items ≡ true → length items ≤ 1
unfolding keeps_serial
one_serial None items h = none_at_all items h
one_serial (Some (room.Characters most)) items h = one_at_most (has_room most) items h
one_serial (Some (room.Digits most)) items h = one_at_most (is_number most) items h

one_further : (form : KeyForm) (pieces totals : List Item) → keeps_further form pieces totals ≡ true → (length pieces ≤ 1) × (length totals ≤ 1)
unfolding keeps_further
one_further (Digits digits (Further a b)) pieces totals h =
    let both = and_parts (is_one (is_digits a) pieces) (is_one (is_digits b) totals) h in
    (one_at_most (is_digits a) pieces both.0, one_at_most (is_digits b) totals both.1)
one_further (Digits digits Nothing) pieces totals h =
    let both = and_parts (is_empty pieces) (is_empty totals) h in
    (none_at_all pieces both.0, none_at_all totals both.1)
one_further (Digits digits (Tail most)) pieces totals h =
    let both = and_parts (is_empty pieces) (is_empty totals) h in
    (none_at_all pieces both.0, none_at_all totals both.1)
one_further (Characters most) pieces totals h =
    let both = and_parts (is_empty pieces) (is_empty totals) h in
    (none_at_all pieces both.0, none_at_all totals both.1)

-- ---- the value of a field is that of its one item

one_there : (field : Field) (parts : List FieldItem) (k : ℕ) (item : Item) → slice_get parts k ≡ Some (Some field, item)
    → 1 ≤ length (items_of_field field parts)
one_there field [] k item at = absurd (let e : None ≡ Some (Some field, item) = at in cc)
one_there field (part ∷ parts) zero item at =
    let same : part ≡ (Some field, item) = cc in
    let its : is_field field part.0 ≡ true = rw same (own_field field) in
    rw its (let n : 1 ≤ length (part.1 ∷ items_of_field field parts) = omega arith in n)
one_there field (part ∷ parts) (suc k) item at = elim (true_or_false (is_field field part.0)) [
  | inl e ↦ rw e (let n : 1 ≤ length (part.1 ∷ items_of_field field parts) = omega arith in n)
  | inr e ↦ rw e (one_there field parts k item at)
]

first_there : (field : Field) (parts : List FieldItem) (values : List (List ℕ)) (k : ℕ) (item : Item) (value : List ℕ)
    → length (items_of_field field parts) ≤ 1 → slice_get parts k ≡ Some (Some field, item) → slice_get values k ≡ Some value
    → value_at field (fields_of parts) values ≡ Some value
first_there field [] values k item value one at read = absurd (let e : None ≡ Some (Some field, item) = at in cc)
first_there field (part ∷ parts) [] k item value one at read = absurd (let e : None ≡ Some value = read in cc)
first_there field (part ∷ parts) (given ∷ values) zero item value one at read =
    let same : part ≡ (Some field, item) = cc in
    let its : is_field field part.0 ≡ true = rw same (own_field field) in
    let equal : given ≡ value = cc in
    rw (its, equal) refl
first_there field (part ∷ parts) (given ∷ values) (suc k) item value one at read = elim (true_or_false (is_field field part.0)) [
  | inl e ↦
      let count : length (part.1 ∷ items_of_field field parts) ≤ 1 = rw e at one in
      let more = one_there field parts k item at in
      absurd (omega arith)
  | inr e ↦ rw e (first_there field parts values k item value (rw e at one) at read)
]

-- ---- lists that are equal place by place

mapped_values : (v : Option Field → List ℕ) (fields : List (Option Field)) (values : List (List ℕ)) → length fields ≡ length values
    → ((k : ℕ) (field : Option Field) (value : List ℕ) → slice_get fields k ≡ Some field → slice_get values k ≡ Some value → value ≡ v field)
    → map v fields ≡ values
mapped_values v [] [] count each = refl
mapped_values v [] (value ∷ values) count each = absurd (omega arith)
mapped_values v (field ∷ fields) [] count each = absurd (omega arith)
mapped_values v (field ∷ fields) (value ∷ values) count each =
    let first : value ≡ v field = each 0 field value refl refl in
    ap₂ (λ (x : List ℕ) (xs : List (List ℕ)). x ∷ xs) (sym first) (mapped_values v fields values (omega arith) (λ k f w at read. each (suc k) f w at read))

-- ---- the values of an option's items are those of the fields that they give

-- the item of a field
item_at : (parts : List FieldItem) (k : ℕ) (field : Option Field) → slice_get (fields_of parts) k ≡ Some field
    → (item : Item) × (slice_get parts k ≡ Some (field, item))
item_at [] k field at = absurd (let e : None ≡ Some field = at in cc)
item_at ((name, item) ∷ parts) zero field at = let same : name ≡ field = cc in (item, rw same refl)
item_at (part ∷ parts) (suc k) field at = item_at parts k field at

alone_at : (parts : List FieldItem) (k : ℕ) (part : FieldItem) → slice_get parts k ≡ Some part → slice_get (alone parts) k ≡ Some part.1
alone_at [] k part at = absurd (let e : None ≡ Some part = at in cc)
alone_at (first ∷ parts) zero part at = let same : first ≡ part = cc in rw same refl
alone_at (first ∷ parts) (suc k) part at = alone_at parts k part at

-- one digit is the text of its number
digit_again : (value : List ℕ) → IsFilter value → decimal (decimal_value value) ≡ value
digit_again value filter =
    let small = filter.small in
    let text : value ≡ decimal filter.number = filter.text ∙ sym (decimal_digit filter.number (omega arith)) in
    let number : decimal_value value ≡ filter.number = ap decimal_value text ∙ value_decimal filter.number (omega arith) in
    ap decimal number ∙ sym text

module _ (set : TableRows) (items : List Item) (info : OptInfo) (values words : List (List ℕ)) (kept : KeptOption set Binary items info)
    (each : EachWord items values words) where
  field_value : (field : Field) (k : ℕ) (value : List ℕ) → length (items_of_field field kept.parts) ≤ 1
      → slice_get info.fields k ≡ Some (Some field) → slice_get values k ≡ Some value → value_at field info.fields values ≡ Some value
  field_value field k value one at read =
      let part = item_at kept.parts k (Some field) (rw kept.fields_are at at) in
      rw kept.fields_are (first_there field kept.parts values k part.0 value one part.1 read)

  filter_value : (given : Option (List ℕ)) (value : List ℕ) → given ≡ Some value → IfSome given IsFilter → IsFilter value
  filter_value given value is filter = rw is at filter

  value_again : (k : ℕ) (field : Option Field) (value : List ℕ) → slice_get info.fields k ≡ Some field → slice_get values k ≡ Some value
      → value ≡ value_for Binary (epc_of info values) field
  value_again k None value at read =
      let part = item_at kept.parts k None (rw kept.fields_are at at) in
      let item : slice_get items k ≡ Some part.0 = rw kept.items_are (alone_at kept.parts k (None, part.0) part.1) in
      let word = word_at items values words each k part.0 value item read in
      empty_value part.0 value word.0 (kept.beside k part.0 part.1) word.1
  value_again k (Some Filter) value at read =
      let here = field_value Filter k value (one_at_most is_filter (items_of_field Filter kept.parts) (one_in_bits info.encoding kept.parts kept.of_level)) at read in
      let digit = filter_value (value_at Filter info.fields values) value here (filter_kept set Binary items info values words kept each) in
      rw here (sym (digit_again value digit))
  value_again k (Some Gcp) value at read =
      let here = field_value Gcp k value (one_gcp kept.of_kind.form kept.kind.lead info.gcp (items_of_field Gcp kept.parts) kept.gcp) at read in
      rw here refl
  value_again k (Some Rest) value at read =
      let here = field_value Rest k value (one_rest kept.of_kind.form info.gcp (items_of_field Rest kept.parts) kept.rest) at read in
      rw here refl
  value_again k (Some Piece) value at read =
      let here = field_value Piece k value (one_further kept.of_kind.form (items_of_field Piece kept.parts) (items_of_field Total kept.parts) kept.further).0 at read in
      rw here refl
  value_again k (Some Total) value at read =
      let here = field_value Total k value (one_further kept.of_kind.form (items_of_field Piece kept.parts) (items_of_field Total kept.parts) kept.further).1 at read in
      rw here refl
  value_again k (Some Serial) value at read =
      let here = field_value Serial k value (one_serial (serial_room set.ais kept.of_kind.form kept.kind.serial) (items_of_field Serial kept.parts) kept.serial) at read in
      rw here refl

  pub values_again : length info.fields ≡ length values → values_for Binary (epc_of info values) info ≡ values
  values_again count = mapped_values (value_for Binary (epc_of info values)) info.fields values count value_again

-- ---- nothing is left out of the fields of values

none_stands : (field : Field) (fields : List (Option Field)) (values : List (List ℕ)) → list_any (is_field field) fields ≡ false
    → value_of field fields values ≡ []
none_stands field [] values h = refl
none_stands field (name ∷ fields) [] h = refl
none_stands field (name ∷ fields) (value ∷ values) h =
    let parts = or_parts (is_field field name) (list_any (is_field field) fields) h in
    rw parts.0 (none_stands field fields values parts.1)

stays : (field : Field) (fields : List (Option Field)) (values : List (List ℕ)) → is_left_out field fields (value_of field fields values) ≡ false
stays field fields values = elim (true_or_false (list_any (is_field field) fields)) [
  | inl e ↦ rw e refl
  | inr e ↦ let none = none_stands field fields values e in rw (e, none) refl
]

pub nothing_left_out : (info : OptInfo) (values : List (List ℕ)) → left_out info.fields (epc_of info values) ≡ None
nothing_left_out info values =
    let rest = stays Rest info.fields values in
    let piece = stays Piece info.fields values in
    let total = stays Total info.fields values in
    let serial = stays Serial info.fields values in
    rw (rest, piece, total, serial) refl
