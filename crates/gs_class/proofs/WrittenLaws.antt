-- The text that is written of an identity is a class URI of it.
use Rattle.std.proofs.Common.{◌≡◌, ℕ, ◌-◌, ◌==◌, ◌&&◌, ◌⊎◌, not, if◌then◌else◌, Bool, true, false, List, [], ◌∷◌, length, map, position, Option, Some, None, bytes_eq, find, is_some, slice_get, refl, sym, ap, subst, ◌∙◌, arith, inl, inr, true≢false}
use Rattle.std.specs.Prelude.{Result, Ok, Err}
use Rattle.std.specs.List.{list_any}
use Rattle.std.specs.Option.{option_map_or}
use Rattle.std.proofs.lemmas.Bool.Decides.{nat_tests}
use Rattle.std.proofs.lemmas.List.{length-map}
use Rattle.gs_chars.proofs.TruthsAndLists.{equal_bytes, mapped_some, place_left, place_right, true_or_false}
use Rattle.gs_ai.specs.declared.pair.Pair.{Pair}
use Rattle.gs_ai.specs.declared.row.AiRow.{AiRow}
use Rattle.gs_ai.specs.Tables.{KeepsRules, is_key_of}
use Rattle.gs_ai.specs.Values.{has_code}
use Rattle.gs_ident.specs.Elements.{Elements}
use Rattle.gs_ident.specs.Identities.{IsMadeWith, pair_with}
use Rattle.gs_ident.proofs.PairLemmas.{found_passes}
use Rattle.gs_tables_document.specs.declared.document.SerialAt.TheVariants.{Ai}
use Rattle.gs_epc.specs.KeyParts.{IsOfKind, fields_at, serial_in, take_apart}
use Rattle.gs_epc.proofs.LaidSets.{no_pairs}
use Rattle.std.proofs.lemmas.Bool.{leb-true, and_parts, not-false, not-true}
use Rattle.gs_ai.specs.Tables.{is_empty}
use Rattle.gs_ident.proofs.PairLemmas.{not_found}
use Rattle.gs_grammar.specs.declared.item.Item.{Item}
use Rattle.gs_grammar.specs.Derivations.{Derives}
use Rattle.gs_grammar.specs.WrittenWords.{AreHeld, written, written_words}
use Rattle.gs_grammar.proofs.WordLaws.{all_items}
use Rattle.gs_grammar.proofs.WritingLemmas.{written_derives}
use Rattle.gs_prefix.specs.declared.entry.PrefixEntry.{PrefixEntry}
use Rattle.gs_tables_document.specs.declared.document.Field.{Field}
use Rattle.gs_tables_document.specs.declared.document.Field.TheVariants.{Gcp, Rest, Serial}
use Rattle.gs_tables_document.specs.Items.{alone, fields_of, present}
use Rattle.gs_tables.specs.KeptRules.{KeptKind}
use Rattle.gs_tables.specs.Rules.{has_room, is_digits, is_one, items_of_field, keeps_rest, keeps_serial}
use Rattle.gs_epc.specs.Epcs.{value_of}
use Rattle.gs_epc.specs.Layout.{KeyFields, lay, parts_at}
use Rattle.gs_epc.proofs.LaidLaws.{again}
use Rattle.gs_ident.proofs.KeyPairs.{IsKeyPair, is_key_pair, absent as unlisted}
use Rattle.gs_epc.proofs.ReadBack.{none_stands, one_stands, value_where}
use Rattle.gs_class.specs.declared.class_set.Class.{Class}
use Rattle.gs_class.specs.declared.error.ClassWriteFault.{ClassWriteFault}
use Rattle.gs_class.specs.declared.error.ClassWriteFault.TheVariants.{NoClass, MissingElement, Extra, MissingGcp, NoOption, CannotHold}
use Rattle.gs_class.specs.declared.document.ClassRow.{ClassRow}
use Rattle.gs_class.specs.Meanings.{IsClass, said_by}
use Rattle.gs_class.specs.Sets.{ClassRows, IsOfTable, class_of, kind_of}
use Rattle.gs_class.specs.Written.{by_class, by_fields, by_items, by_length, by_name, class_answer, has_key, is_extra, is_named_by, is_sized, items_at, length_for, others_of, value_for, values_for, why_not_lot}
use Rattle.gs_class.specs.WrittenSupport.{CanWrite, HasOneLot, HoldOthers}
use Rattle.gs_class.proofs.ClassIdentities.{kind_kept}
use Rattle.gs_class.proofs.KeptClasses.{KeptClass}
use Rattle.gs_class.proofs.KeyDigits.{AreDigits, key_of_identity, length_kept, one_of_prefix, rest_digits}
use Rattle.gs_class.proofs.OneName.{naming_key, same_pair}
use Rattle.gs_class.proofs.SetParts.{RowOf, items_at as level_items, row_of_class}
use Rattle.gs_class.proofs.PlacedPairs.{ArePlaced, are_placed, qualified_pair}
use Rattle.gs_class.proofs.WrittenItems.{all_held, can_write, taken, taken_apart}
use Rattle.gs_chars.proofs.Searches.{position_some}

-- ---- the steps of an answer

-- the class that writes, the class that names the identity, and the tests on the way
pub record Steps (ais : List AiRow) (set : ClassRows) (identity : Elements) (text : List ℕ) : Type 0 where
  pub naming : Class
  pub i : ℕ
  pub class : Class
  pub n : ℕ
  pub said : KeyFields
  pub found : find (is_named_by identity) set.classes ≡ Some naming
  pub none_extra : find (is_extra naming) (others_of identity) ≡ None
  pub sized : position (is_sized naming.name n) set.classes ≡ Some i
  pub at : slice_get set.classes i ≡ Some class
  pub apart : take_apart ais (kind_of class) identity class.gcp ≡ Some said
  pub held : why_not_lot class.fields (items_at set i) said.serial ≡ None
  pub wrote : written (items_at set i) (values_for said class.fields) ≡ text

-- a result of Ok has an optional value that is present
there_is : {X : Type 0} (f : X → Result (List ℕ) ClassWriteFault) (o : Option X) (e : ClassWriteFault) (text : List ℕ)
    → option_map_or f o (Err e) ≡ Ok text → (x : X) × (o ≡ Some x) × (f x ≡ Ok text)
there_is f None e text h = absurd (let g : Err e ≡ Ok text = h in cc)
there_is f (Some x) e text h = (x, refl, h)

-- an answer that is Ok comes of nothing that rejects
none_there : {X : Type 0} (f : X → ClassWriteFault) (o : Option X) (answer : Result (List ℕ) ClassWriteFault) (text : List ℕ)
    → option_map_or (λ x. Err (f x)) o answer ≡ Ok text → (o ≡ None) × (answer ≡ Ok text)
none_there f None answer text h = (refl, h)
none_there f (Some x) answer text h = absurd (let g : Err (f x) ≡ Ok text = h in cc)

passes : (test : Bool) (answer : Result (List ℕ) ClassWriteFault) (e : ClassWriteFault) (text : List ℕ)
    → (if test then answer else Err e) ≡ Ok text → answer ≡ Ok text
passes true answer e text h = h
passes false answer e text h = absurd (let g : Err e ≡ Ok text = h in cc)

pub steps : (ais : List AiRow) (set : ClassRows) (prefixes : List PrefixEntry) (gcp : Option ℕ) (identity : Elements) (text : List ℕ)
    → class_answer ais set prefixes gcp identity ≡ Ok text → Steps ais set identity text
unfolding class_answer by_name by_length
steps ais set prefixes gcp identity text h =
    let some = passes (list_any (has_key identity) set.classes) _ NoClass text h in
    let naming = there_is (by_name ais set prefixes gcp identity) (find (is_named_by identity) set.classes) MissingElement text some in
    let extra = none_there (λ (pair : Pair). Extra pair.code) (find (is_extra naming.0) (others_of identity)) (option_map_or (by_length ais set identity naming.0) (length_for prefixes gcp naming.0 identity) (Err MissingGcp)) text naming.2 in
    let n = there_is (by_length ais set identity naming.0) (length_for prefixes gcp naming.0 identity) MissingGcp text extra.1 in
    let i = there_is (by_class ais set identity) (position (is_sized naming.0.name n.0) set.classes) NoOption text n.2 in
    let class = there_is (λ class. by_items ais class identity (items_at set i.0)) (slice_get set.classes i.0) NoOption text i.2 in
    let said = there_is (by_fields class.0 (items_at set i.0)) (take_apart ais (kind_of class.0) identity class.0.gcp) MissingElement text class.2 in
    let items = none_there CannotHold (why_not_lot class.0.fields (items_at set i.0) said.0.serial) (Ok (written (items_at set i.0) (values_for said.0 class.0.fields))) text said.2 in
    record {
      naming = naming.0;
      i = i.0;
      class = class.0;
      n = n.0;
      said = said.0;
      found = naming.1;
      none_extra = extra.0;
      sized = i.1;
      at = class.1;
      apart = said.1;
      held = items.0;
      wrote = let e : Ok (written (items_at set i.0) (values_for said.0 class.0.fields)) ≡ Ok text = items.1 in cc;
    }

-- ---- the identity that is read from the values of a class

module _ (ais : List AiRow) (row : ClassRow) (kept : KeptClass ais row) (identity : Elements) (made : IsMadeWith ais identity)
    (same : row.key ≡ identity.key.code) (serial : List ℕ) where
  abbrev said : KeyFields
  said = taken ais row kept identity serial

  abbrev fields : List (Option Field)
  fields = fields_of (present row.items)

  prefix_back : value_of Gcp fields (map (value_for said) fields) ≡ said.prefix
  prefix_back =
      let one = one_stands Gcp (is_digits row.gcp) (present row.items) (one_of_prefix (kept.k - 1) row.lead row.gcp (items_of_field Gcp (present row.items)) kept.gcp) in
      rw (value_where Gcp fields (value_for said), one) refl

  serial_back : value_of Serial fields (map (value_for said) fields) ≡ said.serial
  unfolding keeps_serial
  serial_back =
      let one = one_stands Serial (has_room kept.most) (present row.items) kept.serial in
      rw (value_where Serial fields (value_for said), one) refl

  empty_rest : (text : List ℕ) → length text ≡ 0 → [] ≡ text
  empty_rest [] h = refl
  empty_rest (c ∷ text) h = absurd (omega arith)

  rest_count : AreDigits (kept.k - 1 - row.gcp) said.rest
  rest_count = rest_digits kept.k row.lead row.gcp identity.key.value (key_of_identity ais row kept identity made same)
      (leb-true row.lead 1 kept.lead) (length_kept (kept.k - 1) row.lead row.gcp (items_of_field Gcp (present row.items)) kept.gcp)

  rest_back : value_of Rest fields (map (value_for said) fields) ≡ said.rest
  unfolding keeps_rest
  rest_back = by (kept.k - 1 - row.gcp == 0) refl
    where
      by : (b : Bool) → (kept.k - 1 - row.gcp == 0) ≡ b → value_of Rest fields (map (value_for said) fields) ≡ said.rest
      by true e =
          let h : is_empty (items_of_field Rest (present row.items)) ≡ true = rw e at kept.rest in
          let none = none_stands Rest (present row.items) h in
          let zero_left : kept.k - 1 - row.gcp ≡ 0 = grind (arith, nat_tests) in
          let count = rest_count.count in
          rw (value_where Rest fields (value_for said), none) (empty_rest said.rest (count ∙ zero_left))
      by false e =
          let h : is_one (is_digits (kept.k - 1 - row.gcp)) (items_of_field Rest (present row.items)) ≡ true = rw e at kept.rest in
          let one = one_stands Rest (is_digits (kept.k - 1 - row.gcp)) (present row.items) h in
          rw (value_where Rest fields (value_for said), one) refl

  pub said_back : said_by (class_of row) (values_for said fields) ≡ said
  said_back = rw (prefix_back, rest_back, serial_back) refl

-- ---- the pairs of an identity that a class writes

-- a pair that is not extra has the code of the key or of the element
one_of_two : (key element code : List ℕ) → (not (bytes_eq key code) && not (bytes_eq element code)) ≡ false → (bytes_eq key code ≡ true) ⊎ (element ≡ code)
one_of_two key element code h = elim (true_or_false (bytes_eq key code)) [
  | inl k ↦ inl k
  | inr k ↦ let g : not (bytes_eq element code) ≡ false = rw k at h in inr (equal_bytes element code (not-false (bytes_eq element code) g))
]

module _ (ais : List AiRow) (rules : KeepsRules ais) (set : ClassRows) (identity : Elements) (of : IsOfTable ais set)
    (made : IsMadeWith ais identity) (text : List ℕ) (s : Steps ais set identity text) where
  sized_at : (c : Class) × (slice_get set.classes s.i ≡ Some c) × (is_sized s.naming.name s.n c ≡ true)
  sized_at = position_some (is_sized s.naming.name s.n) set.classes s.i s.sized

  named : bytes_eq s.naming.name s.class.name ≡ true
  named =
      let both : Some sized_at.0 ≡ Some s.class = sym sized_at.1 ∙ s.at in
      let same : sized_at.0 ≡ s.class = cc in
      let passes : is_sized s.naming.name s.n s.class ≡ true = rw same at sized_at.2 in
      (and_parts (bytes_eq s.naming.name s.class.name) (s.class.gcp == s.n) passes).0

  pair_is : (s.class.key ≡ identity.key.code) × (s.class.element ≡ s.naming.element)
  pair_is = same_pair ais set identity of made s.naming s.found s.i s.class s.at named

  its_row : RowOf ais set s.i of s.class
  its_row = row_of_class ais set s.i of s.class s.at

  abbrev its_kept : KeptClass ais its_row.row
  its_kept = its_row.kept

  row_key : its_row.row.key ≡ identity.key.code
  row_key = ap (λ (c : Class). c.key) (sym its_row.class_is) ∙ pair_is.0

  found_key : find (has_code identity.key.code) ais ≡ Some its_kept.key
  found_key = subst (λ (code : List ℕ). find (has_code code) ais ≡ Some its_kept.key) row_key its_kept.found

  placed : ArePlaced ais identity its_kept.key.qualifiers
  placed = are_placed ais identity its_kept.key made found_key

  key_pair_is : IsKeyPair ais its_kept.key.qualifiers identity.key
  key_pair_is = is_key_pair ais its_kept.key identity.key rules found_key its_kept.role

  element_listed : list_any (bytes_eq s.class.element) its_kept.key.qualifiers ≡ true
  element_listed = subst (λ (code : List ℕ). list_any (bytes_eq code) its_kept.key.qualifiers ≡ true)
      (ap (λ (c : Class). c.element) (sym its_row.class_is)) its_kept.lists

  -- the code of a pair other than the key
  code_of : (j : ℕ) (pair : Pair) → slice_get (others_of identity) j ≡ Some pair → (bytes_eq identity.key.code pair.code ≡ true) ⊎ (s.class.element ≡ pair.code)
  code_of j pair at =
      let fails = not_found (is_extra s.naming) (others_of identity) s.none_extra j pair at in
      elim (one_of_two s.naming.key s.naming.element pair.code fails) [
        | inl k ↦ inl (subst (λ (code : List ℕ). bytes_eq code pair.code ≡ true) (naming_key ais set identity of made s.naming s.found) k)
        | inr e ↦ inr (pair_is.1 ∙ e)
      ]

  no_qualifier : (j : ℕ) (pair : Pair) → slice_get identity.qualifiers j ≡ Some pair → bytes_eq identity.key.code pair.code ≡ true → ⊥
  no_qualifier j pair at same =
      let e = equal_bytes identity.key.code pair.code same in
      let there : list_any (bytes_eq identity.key.code) its_kept.key.qualifiers ≡ true = subst (λ (code : List ℕ). list_any (bytes_eq code) its_kept.key.qualifiers ≡ true) (sym e) (placed.qualified j pair at) in
      true≢false (sym there ∙ unlisted (is_key_of ais) identity.key.code its_kept.key.qualifiers key_pair_is.of_key key_pair_is.no_key)

  qualifier_code : (j : ℕ) (pair : Pair) → slice_get identity.qualifiers j ≡ Some pair → Ai s.class.element ≡ Ai pair.code
  qualifier_code j pair at = elim (code_of j pair (place_left identity.qualifiers identity.attributes j pair at)) [
    | inl same ↦ absurd (no_qualifier j pair at same)
    | inr e ↦ ap (λ (code : List ℕ). Ai code) e
  ]

  no_attribute : (j : ℕ) (pair : Pair) → slice_get identity.attributes j ≡ Some pair → ⊥
  no_attribute j pair at =
      let place = place_right identity.qualifiers identity.attributes j pair at in
      let apart = and_parts (not (bytes_eq identity.key.code pair.code)) (not (list_any (bytes_eq pair.code) its_kept.key.qualifiers)) (placed.other j pair at) in
      elim (code_of place.0 pair place.1) [
        | inl same ↦ true≢false (sym same ∙ not-true (bytes_eq identity.key.code pair.code) apart.0)
        | inr e ↦
            let there : list_any (bytes_eq pair.code) its_kept.key.qualifiers ≡ true = subst (λ (code : List ℕ). list_any (bytes_eq code) its_kept.key.qualifiers ≡ true) e element_listed in
            true≢false (sym there ∙ not-true (list_any (bytes_eq pair.code) its_kept.key.qualifiers) apart.1)
      ]

  no_attributes : identity.attributes ≡ []
  no_attributes = no_pairs identity.attributes no_attribute

  of_kind : IsOfKind (kind_of s.class) identity
  of_kind = record { key = sym pair_is.0; qualifiers = qualifier_code; attributes = no_attributes }

  -- ---- the digits that the class takes

  kept_kind : KeptKind ais (kind_of s.class)
  kept_kind = subst (λ (c : Class). KeptKind ais (kind_of c)) (sym its_row.class_is) (kind_kept ais its_row.row its_kept)

  laid_out : identity ≡ lay ais (kind_of s.class) s.said
  laid_out =
      let parts = parts_at ais s.class.key in
      let serial = mapped_some (fields_at parts (kind_of s.class) s.class.gcp identity.key.value) (serial_in ais parts (Ai s.class.element) identity) s.said s.apart in
      again ais (kind_of s.class) s.class.gcp serial.0 identity rules kept_kind of_kind made serial.1 ∙ ap
      (λ (f : KeyFields). lay ais (kind_of s.class) f) serial.2

  -- the element has a pair among the qualifiers
  element_there : (pair : Pair) × (pair_with identity.qualifiers its_row.row.element ≡ Some pair)
  element_there =
      let named_by = and_parts (has_key identity s.naming) (is_some (pair_with (others_of identity) s.naming.element)) (found_passes (is_named_by identity) set.classes s.naming s.found) in
      let code : s.naming.element ≡ its_row.row.element = sym pair_is.1 ∙ ap (λ (c : Class). c.element) its_row.class_is in
      qualified_pair ais identity its_kept.key its_row.row.element made found_key its_kept.lists (rw code at named_by.1)

  -- the fields that the class takes
  said_is : s.said ≡ taken ais its_row.row its_kept identity element_there.0.value
  said_is =
      let own : take_apart ais (kind_of s.class) identity s.class.gcp ≡ Some (taken ais its_row.row its_kept identity element_there.0.value) =
      subst (λ (c : Class). take_apart ais (kind_of c) identity c.gcp ≡ Some (taken ais its_row.row its_kept identity element_there.0.value)) (sym its_row.class_is) (taken_apart ais its_row.row its_kept identity element_there.0 element_there.1) in
      let both : Some s.said ≡ Some (taken ais its_row.row its_kept identity element_there.0.value) = sym s.apart ∙ own in
      cc

  -- ---- the derivation

  abbrev items : List Item
  items = alone (present its_row.row.items)

  abbrev values : List (List ℕ)
  values = values_for s.said s.class.fields

  items_are : items_at set s.i ≡ items
  items_are = ap (λ (o : Option (List Item)). option_map_or (λ its. its) o []) (level_items ais set s.i of its_row.row its_row.at)

  can : CanWrite ais (class_of its_row.row) items identity
  can = can_write ais its_row.row its_kept identity made row_key element_there.0 element_there.1

  said_can : s.said ≡ can.said
  said_can =
      let own : take_apart ais (kind_of s.class) identity s.class.gcp ≡ Some can.said = subst (λ (c : Class). take_apart ais (kind_of c) identity c.gcp ≡ Some can.said) (sym its_row.class_is) can.apart in
      let both : Some s.said ≡ Some can.said = sym s.apart ∙ own in
      cc

  others : HoldOthers s.class items s.said
  others = subst (λ (f : KeyFields). HoldOthers s.class items f) (sym said_can)
      (subst (λ (c : Class). HoldOthers c items can.said) (sym its_row.class_is) can.others)

  lot : HasOneLot s.class
  lot = subst (λ (c : Class). HasOneLot c) (sym its_row.class_is) can.lot

  held : AreHeld items values
  held = all_held s.class items s.said others lot (subst (λ (its : List Item). why_not_lot s.class.fields its s.said.serial ≡ None) items_are s.held)

  count : length values ≡ length items
  count = length-map s.class.fields (value_for s.said) ∙ subst (λ (c : Class). length c.fields ≡ length items) (sym its_row.class_is) can.as_many

  derives : Derives items text values (written_words items values)
  derives =
      let wrote : written items values ≡ text = subst (λ (its : List Item). written its values ≡ text) items_are s.wrote in
      subst (λ (t : List ℕ). Derives items t values (written_words items values)) wrote
      (written_derives items values (all_items false items its_kept.bounds.none_bad) count held)

  back : said_by s.class values ≡ s.said
  back =
      let own = said_back ais its_row.row its_kept identity made row_key element_there.0.value in
      subst (λ (c : Class). said_by c (values_for s.said c.fields) ≡ s.said) (sym its_row.class_is)
      (subst (λ (f : KeyFields). said_by (class_of its_row.row) (values_for f (class_of its_row.row).fields) ≡ f) (sym said_is) own)

  pub is_class : IsClass ais set text identity
  is_class = record {
    derivation = record { option = s.i; items = items; values = values; words = written_words items values; of_level = level_items ais set s.i of its_row.row its_row.at; derives = derives };
    class = s.class;
    named = s.at;
    is = laid_out ∙ ap (λ (f : KeyFields). lay ais (kind_of s.class) f) (sym back);
  }

-- the text that is written of an identity of the table is a class URI of it
pub written_is_read : (ais : List AiRow) → KeepsRules ais
    → (set : ClassRows) (prefixes : List PrefixEntry) (gcp : Option ℕ) (identity : Elements) (text : List ℕ) → IsOfTable ais set
    → IsMadeWith ais identity → class_answer ais set prefixes gcp identity ≡ Ok text → IsClass ais set text identity
written_is_read ais rules set prefixes gcp identity text of made h = is_class ais rules set identity of made text (steps ais set prefixes gcp identity text h)
