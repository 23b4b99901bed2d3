-- Which values the items of a class hold.
use Rattle.std.proofs.Common.{◌≡◌, ℕ, zero, suc, ◌+◌, ◌-◌, ◌==◌, not, Bool, true, false, List, [], ◌∷◌, length, position, Option, Some, None, option_map, slice_get, refl, sym, ap, subst, ◌∙◌, arith, inl, inr}
use Rattle.std.specs.Option.{option_and_then}
use Rattle.std.specs.Prelude.{Result, Ok, Err}
use Rattle.std.proofs.lemmas.Bool.{leb-true, or_parts, not-false}
use Rattle.std.proofs.lemmas.Bool.Decides.{nat_tests}
use Rattle.std.proofs.lemmas.List.{length-map}
use Rattle.std.proofs.lemmas.Option.{slice_get-map, slice_get_within}
use Rattle.gs_chars.proofs.TruthsAndLists.{mapped_some, true_or_false}
use Rattle.gs_ai.specs.declared.pair.Pair.{Pair}
use Rattle.gs_ai.specs.declared.part.Part.TheVariants.{NumCheck}
use Rattle.gs_ai.specs.declared.row.AiRow.{AiRow}
use Rattle.gs_ai.specs.Tables.{is_empty}
use Rattle.gs_ident.specs.Elements.{Elements}
use Rattle.gs_ident.specs.Identities.{IsMadeWith, pair_with}
use Rattle.gs_grammar.specs.declared.error.Why.{Why}
use Rattle.gs_grammar.specs.declared.item.Item.{Item}
use Rattle.gs_grammar.specs.declared.item.Item.TheVariants.{Lit, Pad, Digits as DigitsItem, Int, Esc, NumPad, Num, NumStr, Ascii7, Fill}
use Rattle.gs_grammar.specs.Items.{is_bad, is_in_bounds}
use Rattle.gs_grammar.specs.WrittenWords.{AreHeld, IsFirstRejection, why_not, written}
use Rattle.gs_tables_document.specs.declared.document.Field.{Field}
use Rattle.gs_tables_document.specs.declared.document.Field.TheVariants.{Filter, Piece, Total, Gcp, Rest, Serial}
use Rattle.gs_tables_document.specs.Items.{FieldItem, alone, fields_of, present}
use Rattle.gs_tables.specs.Rules.{has_room, is_digits, is_field, is_one, items_of_field, keeps_rest, keeps_serial}
use Rattle.gs_epc.proofs.KeptFields.{the_one}
use Rattle.gs_class.specs.declared.class_set.Class.{Class}
use Rattle.gs_class.specs.declared.error.ClassWriteFault.{ClassWriteFault}
use Rattle.gs_class.specs.declared.error.ClassWriteFault.TheVariants.{CannotHold, Memory}
use Rattle.gs_class.specs.declared.document.ClassRow.{ClassRow}
use Rattle.gs_class.specs.Rules.{is_bad_item, is_class_item}
use Rattle.gs_class.specs.Sets.{class_of, kind_of}
use Rattle.gs_epc.specs.KeyParts.{fields_at, prefix_in, rest_in, take_apart}
use Rattle.gs_epc.specs.Layout.{KeyFields, parts_at}
use Rattle.gs_class.specs.Written.{by_fields, by_items, value_for, values_for, why_not_lot}
use Rattle.gs_class.specs.WrittenSupport.{CanWrite, HasOneLot, HoldOthers}
use Rattle.gs_class.proofs.KeptClasses.{KeptClass}
use Rattle.gs_class.proofs.KeyDigits.{AreDigits, key_of_identity, length_kept, one_of_prefix, prefix_digits, rest_digits}
use Rattle.gs_chars.proofs.Searches.{cons_none, position-cons, position_some}
use Rattle.gs_ai.proofs.TableLemmas.{empty_from}
use Rattle.gs_chars.specs.Answers.{OrError}

-- ---- an item and its field

-- the item at a place with the field at that place
part_at : (parts : List FieldItem) (k : ℕ) (item : Item) (field : Option Field) → slice_get (alone parts) k ≡ Some item
    → slice_get (fields_of parts) k ≡ Some field → slice_get parts k ≡ Some (field, item)
part_at [] k item field a b = absurd (let e : None ≡ Some item = a in cc)
part_at (p ∷ parts) zero item field a b = let same : p.1 ≡ item = cc in let same' : p.0 ≡ field = cc in ap (λ (x : FieldItem). Some x) (λ i. (same' i, same i))
part_at (p ∷ parts) (suc k) item field a b = part_at parts k item field a b

-- an item of a row is good
record IsGood (part : FieldItem) : Type 0 where
  bounds : is_in_bounds false part.1 ≡ true
  classy : is_class_item part ≡ true

good_at : (entries : List (Option FieldItem)) (k : ℕ) (part : FieldItem) → position is_bad_item entries ≡ None
    → slice_get (present entries) k ≡ Some part → IsGood part
good_at [] k part h at = absurd (let e : None ≡ Some part = at in cc)
good_at (None ∷ entries) k part h at = let g = cons_none is_bad_item None entries h in absurd (let e : true ≡ false = g.0 in cc)
good_at (Some p ∷ entries) zero part h at =
    let g = cons_none is_bad_item (Some p) entries h in
    let both = or_parts (is_bad false p.1) (not (is_class_item p)) g.0 in
    let same : p ≡ part = cc in
    rw (← same) (record { bounds = not-false (is_in_bounds false p.1) both.0; classy = not-false (is_class_item p) both.1 })
good_at (Some p ∷ entries) (suc k) part h at = good_at entries k part (cons_none is_bad_item (Some p) entries h).1 at

-- a field without items has none at any place
none_there : (field : Field) (parts : List FieldItem) (k : ℕ) (part : FieldItem) → items_of_field field parts ≡ []
    → slice_get parts k ≡ Some part → is_field field part.0 ≡ true → ⊥
none_there field [] k part h at f = let e : None ≡ Some part = at in cc
none_there field (p ∷ parts) zero part h at f =
    let same : p ≡ part = cc in
    let own : is_field field p.0 ≡ true = rw same f in
    let g : p.1 ∷ items_of_field field parts ≡ [] = rw own at h in
    cc
none_there field (p ∷ parts) (suc k) part h at f = elim (true_or_false (is_field field p.0)) [
  | inl t ↦ absurd (let g : p.1 ∷ items_of_field field parts ≡ [] = rw t at h in cc)
  | inr t ↦ none_there field parts k part (rw t at h) at f
]

-- an item of a field is the one of the field
the_same : (field : Field) (parts : List FieldItem) (one : Item) (k : ℕ) (part : FieldItem) → items_of_field field parts ≡ one ∷ []
    → slice_get parts k ≡ Some part → is_field field part.0 ≡ true → part.1 ≡ one
the_same field [] one k part h at f = absurd (let e : None ≡ Some part = at in cc)
the_same field (p ∷ parts) one zero part h at f =
    let same : p ≡ part = cc in
    let own : is_field field p.0 ≡ true = rw same f in
    let g : p.1 ∷ items_of_field field parts ≡ one ∷ [] = rw own at h in
    let first : p.1 ≡ one = cc in
    rw (← same) first
the_same field (p ∷ parts) one (suc k) part h at f = elim (true_or_false (is_field field p.0)) [
  | inl t ↦ let g : p.1 ∷ items_of_field field parts ≡ one ∷ [] = rw t at h in
      let others : items_of_field field parts ≡ [] = cc in
      absurd (none_there field parts k part others at f)
  | inr t ↦ the_same field parts one k part (rw t at h) at f
]

-- the place of the one item of a field
only_place : (field : Field) (parts : List FieldItem) (one : Item) (k : ℕ) (named : Option Field) → items_of_field field parts ≡ one ∷ []
    → slice_get (fields_of parts) k ≡ Some named → is_field field named ≡ true → position (is_field field) (fields_of parts) ≡ Some k
only_place field [] one k named h at f = absurd (let e : None ≡ Some named = at in cc)
only_place field (p ∷ parts) one zero named h at f =
    let same : p.0 ≡ named = cc in
    let own : is_field field p.0 ≡ true = rw same f in
    rw (position-cons (is_field field) p.0 (fields_of parts), own) refl
only_place field (p ∷ parts) one (suc k) named h at f = elim (true_or_false (is_field field p.0)) [
  | inl t ↦ let g : p.1 ∷ items_of_field field parts ≡ one ∷ [] = rw t at h in
      let others : items_of_field field parts ≡ [] = cc in
      let part = mapped_some (λ (i : FieldItem). i.0) (slice_get parts k) named (sym (slice_get-map (λ (i : FieldItem). i.0) parts k) ∙ at) in
      absurd (none_there field parts k part.0 others part.1 (ap (is_field field) part.2 ∙ f))
  | inr t ↦
      let rest = only_place field parts one k named (rw t at h) at f in
      let next : 1 + k ≡ suc k = omega arith in
      rw (position-cons (is_field field) p.0 (fields_of parts), t, rest, next) refl
]

-- ---- the values that the items hold

literal_holds : (item : Item) → is_class_item (None, item) ≡ true → why_not item [] ≡ None
literal_holds (Lit text) h = refl
literal_holds (Pad n) h = absurd (let e : false ≡ true = h in cc)
literal_holds (DigitsItem lo hi) h = absurd (let e : false ≡ true = h in cc)
literal_holds (Int most) h = absurd (let e : false ≡ true = h in cc)
literal_holds (Esc lo hi) h = absurd (let e : false ≡ true = h in cc)
literal_holds (NumPad bits n) h = absurd (let e : false ≡ true = h in cc)
literal_holds (Num bits most) h = absurd (let e : false ≡ true = h in cc)
literal_holds (NumStr bits hi) h = absurd (let e : false ≡ true = h in cc)
literal_holds (Ascii7 lo hi bits) h = absurd (let e : false ≡ true = h in cc)
literal_holds (Fill a b) h = absurd (let e : false ≡ true = h in cc)

same_count : (n k : ℕ) (value : List ℕ) → length value ≡ n → (k == n) ≡ true → (length value == k) ≡ true
same_count n k value count h = let same : k ≡ n = grind (arith, nat_tests) in grind (arith, nat_tests)

digits_hold : (n : ℕ) (item : Item) (value : List ℕ) → is_in_bounds false item ≡ true → is_digits n item ≡ true → AreDigits n value → why_not item value ≡ None
digits_hold n (Lit text) value b h are = absurd (let e : false ≡ true = h in cc)
digits_hold n (Pad k) value b h are = let c = same_count n k value are.count h in rw (are.digits, c) refl
digits_hold n (DigitsItem lo hi) value b h are = absurd (let e : false ≡ true = h in cc)
digits_hold n (Int most) value b h are = absurd (let e : false ≡ true = h in cc)
digits_hold n (Esc lo hi) value b h are = absurd (let e : false ≡ true = h in cc)
digits_hold n (NumPad bits k) value b h are = absurd (let e : false ≡ true = b in cc)
digits_hold n (Num bits most) value b h are = absurd (let e : false ≡ true = h in cc)
digits_hold n (NumStr bits hi) value b h are = absurd (let e : false ≡ true = h in cc)
digits_hold n (Ascii7 lo hi bits) value b h are = absurd (let e : false ≡ true = h in cc)
digits_hold n (Fill a b') value b h are = absurd (let e : false ≡ true = h in cc)

-- the fields that the class of a row takes of an identity
abbrev pub taken : (ais : List AiRow) (row : ClassRow) → KeptClass ais row → Elements → List ℕ → KeyFields
taken ais row kept identity serial = fields_at (NumCheck kept.k ∷ []) (kind_of (class_of row)) row.gcp identity.key.value serial

-- the pair of the element is the serial
pub taken_apart : (ais : List AiRow) (row : ClassRow) (kept : KeptClass ais row) (identity : Elements) (pair : Pair)
    → pair_with identity.qualifiers row.element ≡ Some pair
    → take_apart ais (kind_of (class_of row)) identity row.gcp ≡ Some (taken ais row kept identity pair.value)
taken_apart ais row kept identity pair at = rw (kept.found, kept.parts, at) refl

module _ (ais : List AiRow) (row : ClassRow) (kept : KeptClass ais row) (identity : Elements) (made : IsMadeWith ais identity)
    (same : row.key ≡ identity.key.code)
    (pair : Pair) (at_element : pair_with identity.qualifiers row.element ≡ Some pair) where
  abbrev parts : List FieldItem
  parts = present row.items

  abbrev said : KeyFields
  said = taken ais row kept identity pair.value

  prefix_holds : (k : ℕ) (item : Item) → slice_get parts k ≡ Some (Some Gcp, item) → is_in_bounds false item ≡ true → why_not item said.prefix ≡ None
  prefix_holds k item at bounds =
      let is = key_of_identity ais row kept identity made same in
      let long = length_kept (kept.k - 1) row.lead row.gcp (items_of_field Gcp parts) kept.gcp in
      let one = the_one (is_digits row.gcp) (items_of_field Gcp parts) (one_of_prefix (kept.k - 1) row.lead row.gcp (items_of_field Gcp parts) kept.gcp) in
      let own = the_same Gcp parts one.0 k (Some Gcp, item) one.1 at refl in
      let digits : is_digits row.gcp item ≡ true = rw own one.2 in
      digits_hold row.gcp item said.prefix bounds digits (prefix_digits kept.k row.lead row.gcp identity.key.value is (leb-true row.lead 1 kept.lead) long)

  rest_holds : (k : ℕ) (item : Item) → slice_get parts k ≡ Some (Some Rest, item) → is_in_bounds false item ≡ true → why_not item said.rest ≡ None
  unfolding keeps_rest
  rest_holds k item at bounds = by (kept.k - 1 - row.gcp == 0) refl
    where
      left : ℕ
      left = kept.k - 1 - row.gcp

      by : (b : Bool) → (kept.k - 1 - row.gcp == 0) ≡ b → why_not item said.rest ≡ None
      by true e =
          let h : is_empty (items_of_field Rest parts) ≡ true = rw e at kept.rest in
          absurd (none_there Rest parts k (Some Rest, item) (empty_from (items_of_field Rest parts) h) at refl)
      by false e =
          let h : is_one (is_digits (kept.k - 1 - row.gcp)) (items_of_field Rest parts) ≡ true = rw e at kept.rest in
          let is = key_of_identity ais row kept identity made same in
          let long = length_kept (kept.k - 1) row.lead row.gcp (items_of_field Gcp parts) kept.gcp in
          let one = the_one (is_digits (kept.k - 1 - row.gcp)) (items_of_field Rest parts) h in
          let own = the_same Rest parts one.0 k (Some Rest, item) one.1 at refl in
          let digits : is_digits (kept.k - 1 - row.gcp) item ≡ true = rw own one.2 in
          digits_hold (kept.k - 1 - row.gcp) item said.rest bounds digits
          (rest_digits kept.k row.lead row.gcp identity.key.value is (leb-true row.lead 1 kept.lead) long)

  holds_at : (k : ℕ) (item : Item) (field : Option Field) → slice_get parts k ≡ Some (field, item) → IsGood (field, item)
      → is_field Serial field ≡ false → why_not item (value_for said field) ≡ None
  holds_at k item None at good other = literal_holds item good.classy
  holds_at k item (Some Gcp) at good other = prefix_holds k item at good.bounds
  holds_at k item (Some Rest) at good other = rest_holds k item at good.bounds
  holds_at k item (Some Serial) at good other = absurd (let e : true ≡ false = other in cc)
  holds_at k item (Some Filter) at good other = absurd (let e : false ≡ true = good.classy in cc)
  holds_at k item (Some Piece) at good other = absurd (let e : false ≡ true = good.classy in cc)
  holds_at k item (Some Total) at good other = absurd (let e : false ≡ true = good.classy in cc)

  others_hold : HoldOthers (class_of row) (alone parts) said
  others_hold k item field a b other =
      let at = part_at parts k item field a b in
      holds_at k item field at (good_at row.items k (field, item) kept.none_bad at) other

  one_lot : HasOneLot (class_of row)
  unfolding keeps_serial
  one_lot k field at is =
      let one = the_one (has_room kept.most) (items_of_field Serial parts) kept.serial in
      only_place Serial parts one.0 k field one.1 at is

  -- a class with the key of the identity can write it, unless its lot has no word
  pub can_write : CanWrite ais (class_of row) (alone parts) identity
  can_write = record {
    as_many = length-map parts (λ (i : FieldItem). i.0) ∙ sym (length-map parts (λ (i : FieldItem). i.1));
    qualified = (pair, at_element);
    said = said;
    apart = taken_apart ais row kept identity pair at_element;
    others = others_hold;
    lot = one_lot;
  }

-- ---- the written items

named_serial : (field : Option Field) → is_field Serial field ≡ true → field ≡ Some Serial
named_serial (Some Serial) h = refl
named_serial field h = absurd (let e : false ≡ true = h in cc)

module _ (class : Class) (items : List Item) (said : KeyFields) (others : HoldOthers class items said) (one : HasOneLot class) where
  -- the value of the item of the lot
  lot_at : (k : ℕ) → position (is_field Serial) class.fields ≡ Some k → slice_get (values_for said class.fields) k ≡ Some said.serial
  lot_at k e =
      let at = position_some (is_field Serial) class.fields k e in
      let own = named_serial at.0 at.2 in
      slice_get-map (value_for said) class.fields k ∙ ap (option_map (value_for said)) at.1 ∙ ap (λ (f : Option Field). Some (value_for said f)) own

  -- the item of the lot has a word if all items hold their values
  lot_held : AreHeld items (values_for said class.fields) → why_not_lot class.fields items said.serial ≡ None
  lot_held held = by (position (is_field Serial) class.fields) refl
    where
      by : (place : Option ℕ) → position (is_field Serial) class.fields ≡ place
          → option_and_then (λ k. option_and_then (λ item. why_not item said.serial) (slice_get items k)) place ≡ None
      by None e = refl
      by (Some k) e = by_item (slice_get items k) refl
        where
          by_item : (found : Option Item) → slice_get items k ≡ found → option_and_then (λ item. why_not item said.serial) found ≡ None
          by_item None f = refl
          by_item (Some item) f = held k item said.serial (slice_get_within items k item f) f (lot_at k e)

  -- the one item that may not hold its value is that of the lot
  lot_not_held : (k : ℕ) (why : Why) → IsFirstRejection items (values_for said class.fields) k why → why_not_lot class.fields items said.serial ≡ Some why
  lot_not_held k why first =
      let field = mapped_some (value_for said) (slice_get class.fields k) first.value (sym (slice_get-map (value_for said) class.fields k) ∙ first.value_at) in
      elim (true_or_false (is_field Serial field.0)) [
        | inl is ↦
            let place = one k field.0 field.1 is in
            let own = named_serial field.0 is in
            let value : said.serial ≡ first.value = ap (value_for said) (sym own) ∙ field.2 in
            rw (place, first.item_at, value) first.reason
        | inr other ↦
            let none = others k first.item field.0 first.item_at field.1 other in
            let value : why_not first.item first.value ≡ None = ap (why_not first.item) (sym field.2) ∙ none in
            absurd (let e : Some why ≡ None = sym first.reason ∙ value in cc)
      ]

  -- if the lot has a word, all items hold their values
  pub all_held : why_not_lot class.fields items said.serial ≡ None → AreHeld items (values_for said class.fields)
  all_held none k item value low at held =
      let field = mapped_some (value_for said) (slice_get class.fields k) value (sym (slice_get-map (value_for said) class.fields k) ∙ held) in
      elim (true_or_false (is_field Serial field.0)) [
        | inl is ↦
            let place = one k field.0 field.1 is in
            let own = named_serial field.0 is in
            let word : why_not item said.serial ≡ None = rw (place, at) at none in
            let value_is : said.serial ≡ value = ap (value_for said) (sym own) ∙ field.2 in
            rw (← value_is) word
        | inr other ↦ rw (← field.2) (others k item field.0 at field.1 other)
      ]

  pub written_by : (text : List ℕ) → AreHeld items (values_for said class.fields) → text ≡ written items (values_for said class.fields)
      → Ok text ≡ by_fields class items said
  written_by text held e = rw (lot_held held) (ap (λ (t : List ℕ). Ok t) e)

  pub rejected_by : (k : ℕ) (why : Why) → IsFirstRejection items (values_for said class.fields) k why → Err (CannotHold why) ≡ by_fields class items said
  rejected_by k why first = rw (lot_not_held k why first) refl

-- the answer of `write_text` for the values of a class
module _ (ais : List AiRow) (class : Class) (items : List Item) (identity : Elements) (can : CanWrite ais class items identity)
    (said : KeyFields) (fields : List (Option Field)) (values given : List (List ℕ))
    (apart : take_apart ais (kind_of class) identity class.gcp ≡ Some said) (own : fields ≡ class.fields)
    (made : values ≡ values_for said fields) (same : given ≡ values) where
  said_is : can.said ≡ said
  said_is = let both : Some can.said ≡ Some said = sym can.apart ∙ apart in cc

  others : HoldOthers class items said
  others = subst (λ (f : KeyFields). HoldOthers class items f) said_is can.others

  given_is : given ≡ values_for said class.fields
  given_is = rw own at (same ∙ made)

  answer_is : (answer : Result (List ℕ) ClassWriteFault) → answer ≡ by_fields class items said → OrError Memory answer (by_items ais class identity items)
  answer_is answer e = inr (rw apart e)

  pub written_answer : (text : List ℕ) → AreHeld items given → text ≡ written items given → OrError Memory (Ok text) (by_items ais class identity items)
  written_answer text held wrote = answer_is (Ok text) (written_by class items said others can.lot text (rw given_is at held) (rw given_is at wrote))

  pub rejected_answer : (k : ℕ) (why : Why) → IsFirstRejection items given k why → OrError Memory (Err (CannotHold why)) (by_items ais class identity items)
  rejected_answer k why first = answer_is (Err (CannotHold why)) (rejected_by class items said others can.lot k why (rw given_is at first))

-- the fields that the code takes
pub apart_is : (ais : List AiRow) (class : Class) (identity : Elements) (pair : Pair) (prefix rest serial : List ℕ)
    → pair_with identity.qualifiers class.element ≡ Some pair
    → prefix ≡ prefix_in (parts_at ais class.key) class.lead class.gcp identity.key.value → rest ≡ rest_in
    (parts_at ais class.key) class.lead class.gcp identity.key.value → serial ≡ pair.value
    → take_apart ais (kind_of class) identity class.gcp ≡ Some (record { prefix = prefix; rest = rest; piece = []; total = []; serial = serial })
apart_is ais class identity pair prefix rest serial at a b c = rw (at, a, b, c) refl
