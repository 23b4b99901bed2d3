-- The identity that a class reads is written by the class's own length of the company prefix.
use Rattle.std.proofs.Common.{◌≡◌, ℕ, zero, suc, ◌+◌, ◌<◌, ◌==◌, ◌&&◌, not, Bool, true, false, List, [], ◌∷◌, take, position, Option, Some, None, bytes_eq, find, is_some, slice_get, refl, sym, ap, subst, ◌∙◌, arith, inl, inr, true≢false}
use Rattle.std.specs.Prelude.{All, Ok, option_and_then, option_map}
use Rattle.std.specs.List.{list_any}
use Rattle.std.specs.Option.{option_map_or}
use Rattle.std.proofs.lemmas.Bool.{cases_lt, cases_eq, eqb-true, and_from, and_parts, not_from_true, not-true, false_from_ne_true}
use Rattle.std.proofs.lemmas.Bool.Decides.{nat_tests}
use Rattle.std.proofs.lemmas.List.Elements.{All-head, All-tail}
use Rattle.gs_chars.proofs.TruthsAndLists.{equal_bytes, get_take, same_bytes, true_or_false, same_number, and_none}
use Rattle.gs_ai.specs.declared.pair.Pair.{Pair}
use Rattle.gs_ai.specs.declared.row.AiRow.{AiRow}
use Rattle.gs_ident.specs.Elements.{Elements}
use Rattle.gs_ident.specs.Identities.{pair_with, stands_for_none}
use Rattle.gs_ident.proofs.KeyPairs.{found_place}
use Rattle.gs_ident.proofs.PairLemmas.{find_by_cases, found_passes, not_found}
use Rattle.gs_grammar.specs.declared.error.Why.{Why}
use Rattle.gs_grammar.specs.declared.item.Item.{Item}
use Rattle.gs_grammar.specs.Derivations.{EachWord, no_item, one_item}
use Rattle.gs_grammar.specs.Items.{IsItem}
use Rattle.gs_grammar.specs.Levels.{item_lists}
use Rattle.gs_grammar.specs.WrittenWords.{why_not, written}
use Rattle.gs_grammar.proofs.HoldLemmas.{word_held}
use Rattle.gs_grammar.proofs.WordLaws.{all_items, greatest_small}
use Rattle.gs_prefix.specs.declared.entry.PrefixEntry.{PrefixEntry}
use Rattle.gs_tables_document.specs.declared.document.Field.{Field}
use Rattle.gs_tables_document.specs.declared.document.Field.TheVariants.{Serial}
use Rattle.gs_tables_document.specs.Items.{alone, present}
use Rattle.gs_tables.specs.Rules.{is_field}
use Rattle.gs_epc.specs.Epcs.{value_of}
use Rattle.gs_epc.specs.KeyParts.{fields_at}
use Rattle.gs_epc.specs.Layout.{KeyFields, key_pair, lay, parts_at}
use Rattle.gs_class.specs.declared.class_set.Class.{Class}
use Rattle.gs_class.specs.declared.document.ClassRow.{ClassRow}
use Rattle.gs_class.specs.Meanings.{IsClass, said_by}
use Rattle.gs_class.specs.Rules.{agrees, class_rejections, is_same_pair, is_same_row}
use Rattle.gs_class.specs.Sets.{ClassRows, IsOfTable, kind_of}
use Rattle.gs_class.specs.Written.{by_length, by_name, class_answer, has_key, is_extra, is_named_by, is_sized, items_at, length_for, others_of, values_for, why_not_lot}
use Rattle.gs_class.proofs.ClassIdentities.{none_stands}
use Rattle.gs_class.proofs.KeptClasses.{agree_at, none_same_at}
use Rattle.gs_class.proofs.OneName.{all_at}
use Rattle.gs_class.proofs.SetParts.{RowOf, items_at as level_items, row_of_class}
use Rattle.gs_chars.proofs.Searches.{passes_none, position-cons, position_is}

-- ---- rows

earlier_name : (ais : List AiRow) (rows : List ClassRow) (i j : ℕ) (row other : ClassRow) → class_rejections ais rows ≡ []
    → slice_get rows i ≡ Some row → slice_get rows j ≡ Some other → j < i → row.key ≡ other.key → row.element ≡ other.element
    → row.name ≡ other.name
unfolding agrees
earlier_name ais rows i j row other none a b low key element =
    let there : slice_get (take i rows) j ≡ Some other = get_take rows i j low ∙ b in
    let h : agrees row other ≡ true = all_at (agrees row) (take i rows) j other (agree_at ais rows i row none a) there in
    let keys : bytes_eq row.key other.key ≡ true = rw key (same_bytes other.key) in
    let elements : bytes_eq row.element other.element ≡ true = rw element (same_bytes other.element) in
    let pair : is_same_pair row other ≡ true = and_from (bytes_eq row.key other.key) (bytes_eq row.element other.element) keys elements in
    elim (true_or_false (bytes_eq row.name other.name)) [
      | inl same ↦ equal_bytes row.name other.name same
      | inr differ ↦
          let f : not (is_same_pair row other) ≡ true = rw differ at h in
          absurd (true≢false (sym pair ∙ not-true (is_same_pair row other) f))
    ]

-- rows of one key and one element have one name
one_name : (ais : List AiRow) (rows : List ClassRow) (i j : ℕ) (row other : ClassRow) → class_rejections ais rows ≡ []
    → slice_get rows i ≡ Some row → slice_get rows j ≡ Some other → row.key ≡ other.key → row.element ≡ other.element
    → row.name ≡ other.name
one_name ais rows i j row other none a b key element = elim (cases_lt j i) [
  | inl low ↦ earlier_name ais rows i j row other none a b low key element
  | inr high ↦ elim (cases_eq i j) [
    | inl e ↦ let here : slice_get rows j ≡ Some row = rw e at a in
        let both : Some row ≡ Some other = sym here ∙ b in
        let equal : row ≡ other = cc in
        ap (λ (r : ClassRow). r.name) equal
    | inr differ ↦ sym (earlier_name ais rows j i other row none b a (omega arith) (sym key) (sym element))
  ]
]

-- no row before a row has its name and its length
earlier_differs : (ais : List AiRow) (rows : List ClassRow) (i j : ℕ) (row other : ClassRow) → class_rejections ais rows ≡ []
    → slice_get rows i ≡ Some row → slice_get rows j ≡ Some other → j < i → row.name ≡ other.name → row.gcp ≡ other.gcp → ⊥
unfolding is_same_row
earlier_differs ais rows i j row other none a b low name gcp =
    let there : slice_get (take i rows) j ≡ Some other = get_take rows i j low ∙ b in
    let fails : is_same_row row other ≡ false = passes_none (is_same_row row) (take i rows) j other (none_same_at ais rows i row none a) there in
    let names : bytes_eq row.name other.name ≡ true = rw name (same_bytes other.name) in
    let lengths : (row.gcp == other.gcp) ≡ true = rw gcp (same_number other.gcp) in
    true≢false (sym (and_from (bytes_eq row.name other.name) (row.gcp == other.gcp) names lengths) ∙ fails)

-- ---- lists

any_at : {X : Type 0} (p : X → Bool) (xs : List X) (i : ℕ) (x : X) → slice_get xs i ≡ Some x → p x ≡ true → list_any p xs ≡ true
any_at p [] i x at h = absurd (let e : None ≡ Some x = at in cc)
any_at p (y ∷ ys) zero x at h = let same : y ≡ x = cc in let own : p y ≡ true = rw same h in rw own refl
any_at p (y ∷ ys) (suc i) x at h = elim (true_or_false (p y)) [
  | inl passes ↦ rw passes refl
  | inr fails ↦ rw fails (any_at p ys i x at h)
]

find_one : (p : Pair → Bool) (pair : Pair) → p pair ≡ false → find p (pair ∷ []) ≡ None
find_one p pair h = rw h refl

only_code : (code : List ℕ) (pair : Pair) → is_some (pair_with (pair ∷ []) code) ≡ true → code ≡ pair.code
only_code code pair h = elim (true_or_false (bytes_eq code pair.code)) [
  | inl same ↦ equal_bytes code pair.code same
  | inr differ ↦ absurd (let f : false ≡ true = rw differ at h in cc)
]

only_pair : (code : List ℕ) (pair : Pair) → code ≡ pair.code → pair_with (pair ∷ []) code ≡ Some pair
only_pair code pair h = let same : bytes_eq code pair.code ≡ true = rw h (same_bytes pair.code) in rw same refl

-- ---- the item of the lot

abbrev not_lot : Option ℕ → List Item → List ℕ → Option Why
not_lot place items lot = option_and_then (λ k. option_and_then (λ item. why_not item lot) (slice_get items k)) place

no_items : (place : Option ℕ) (lot : List ℕ) → not_lot place [] lot ≡ None
no_items None lot = refl
no_items (Some k) lot = refl

later : (place : Option ℕ) (item : Item) (items : List Item) (lot : List ℕ) → not_lot place items lot ≡ None
    → not_lot (option_map (λ i. 1 + i) place) (item ∷ items) lot ≡ None
later None item items lot h = refl
later (Some k) item items lot h = let next : 1 + k ≡ suc k = omega arith in rw next h

lot_has_word : (fields : List (Option Field)) (items : List Item) (values words : List (List ℕ)) → EachWord items values words
    → All IsItem items → not_lot (position (is_field Serial) fields) items (value_of Serial fields values) ≡ None
lot_has_word [] items values words each good = refl
lot_has_word (field ∷ fields) items values words no_item good = no_items (position (is_field Serial) (field ∷ fields)) (value_of Serial (field ∷ fields) [])
lot_has_word (field ∷ fields) items values words (one_item item value w others rest more word each) good = elim (true_or_false (is_field Serial field)) [
  | inl here ↦
      let small = greatest_small item (All-head IsItem item others good) in
      rw (position-cons (is_field Serial) field fields, here) (word_held item value w small word)
  | inr other ↦
      let held = lot_has_word fields others rest more each (All-tail IsItem item others good) in
      rw (position-cons (is_field Serial) field fields, other) (later (position (is_field Serial) fields) item others (value_of Serial fields rest) held)
]

-- ---- the answer

module _ (ais : List AiRow) (set : ClassRows) (of : IsOfTable ais set) (i : ℕ) (class : Class) (at : slice_get set.classes i ≡ Some class)
    (value lot : List ℕ) where
  abbrev element : Pair
  element = record { code = class.element; value = lot }

  -- an identity of the class's key and element
  abbrev identity : Elements
  identity = record { key = record { code = class.key; value = value }; qualifiers = element ∷ []; attributes = [] }

  -- its fields
  abbrev said : KeyFields
  said = fields_at (parts_at ais class.key) (kind_of class) class.gcp value lot

  own_key : has_key identity class ≡ true
  own_key = same_bytes class.key

  own_element : is_some (pair_with (others_of identity) class.element) ≡ true
  own_element = ap is_some (only_pair class.element element refl)

  own_name : is_named_by identity class ≡ true
  own_name = and_from (has_key identity class) (is_some (pair_with (others_of identity) class.element)) own_key own_element

  naming : (c : Class) × (find (is_named_by identity) set.classes ≡ Some c)
  naming = elim (find_by_cases (is_named_by identity) set.classes) [
    | inl found ↦ found
    | inr none ↦ absurd (true≢false (sym own_name ∙ not_found (is_named_by identity) set.classes none i class at))
  ]

  named : (has_key identity naming.0 ≡ true) × (is_some (pair_with (others_of identity) naming.0.element) ≡ true)
  named = and_parts (has_key identity naming.0) (is_some (pair_with (others_of identity) naming.0.element))
      (found_passes (is_named_by identity) set.classes naming.0 naming.1)

  key_is : naming.0.key ≡ class.key
  key_is = equal_bytes naming.0.key class.key named.0

  element_is : naming.0.element ≡ class.element
  element_is = only_code naming.0.element element named.1

  own_row : RowOf ais set i of class
  own_row = row_of_class ais set i of class at

  name_is : naming.0.name ≡ class.name
  name_is =
      let place = found_place (is_named_by identity) set.classes naming.0 naming.1 in
      let first = row_of_class ais set place.0 of naming.0 place.1 in
      let keys : first.row.key ≡ own_row.row.key = ap (λ (c : Class). c.key) (sym first.class_is) ∙ key_is ∙ ap (λ (c : Class). c.key) own_row.class_is in
      let elements : first.row.element ≡ own_row.row.element = ap (λ (c : Class). c.element) (sym first.class_is) ∙ element_is ∙ ap (λ (c : Class). c.element) own_row.class_is in
      ap (λ (c : Class). c.name) first.class_is
      ∙ one_name ais of.rows place.0 i first.row own_row.row of.in_order first.at own_row.at keys elements
      ∙ ap (λ (c : Class). c.name) (sym own_row.class_is)

  none_extra : find (is_extra naming.0) (others_of identity) ≡ None
  none_extra =
      let same : bytes_eq naming.0.element class.element ≡ true = rw element_is (same_bytes class.element) in
      find_one (is_extra naming.0) element (and_none (not (bytes_eq naming.0.key class.element)) (not (bytes_eq naming.0.element class.element)) (not_from_true (bytes_eq naming.0.element class.element) same))

  own_size : is_sized naming.0.name class.gcp class ≡ true
  own_size =
      let same : bytes_eq naming.0.name class.name ≡ true = rw name_is (same_bytes class.name) in
      and_from (bytes_eq naming.0.name class.name) (class.gcp == class.gcp) same (same_number class.gcp)

  not_before : (j : ℕ) (other : Class) → j < i → slice_get set.classes j ≡ Some other → is_sized naming.0.name class.gcp other ≡ false
  not_before j other low there = false_from_ne_true (is_sized naming.0.name class.gcp other) (λ passes.
      let both = and_parts (bytes_eq naming.0.name other.name) (other.gcp == class.gcp) passes in
      let row = row_of_class ais set j of other there in
      let names : own_row.row.name ≡ row.row.name = ap (λ (c : Class). c.name) (sym own_row.class_is) ∙ sym name_is ∙ equal_bytes naming.0.name other.name both.0 ∙ ap (λ (c : Class). c.name) row.class_is in
      let lengths : own_row.row.gcp ≡ row.row.gcp = ap (λ (c : Class). c.gcp) (sym own_row.class_is) ∙ sym (eqb-true other.gcp class.gcp both.1) ∙ ap (λ (c : Class). c.gcp) row.class_is in
      earlier_differs ais of.rows i j own_row.row row.row of.in_order own_row.at row.at low names lengths)

  sized : position (is_sized naming.0.name class.gcp) set.classes ≡ Some i
  sized = position_is (is_sized naming.0.name class.gcp) set.classes i class at own_size not_before

  pub answer : (prefixes : List PrefixEntry) → why_not_lot class.fields (items_at set i) lot ≡ None
      → class_answer ais set prefixes (Some class.gcp) identity ≡ Ok (written (items_at set i) (values_for said class.fields))
  unfolding class_answer by_name by_length length_for
  answer prefixes fits =
      let some = any_at (has_key identity) set.classes i class at own_key in
      rw (some, naming.1, none_extra, sized, at, only_pair class.element element refl, fits) refl

-- the items of a class are within their bounds
good_items : (ais : List AiRow) (set : ClassRows) (of : IsOfTable ais set) (i : ℕ) (class : Class) (items : List Item)
    → slice_get set.classes i ≡ Some class → slice_get (item_lists set.level.options) i ≡ Some items → All IsItem items
good_items ais set of i class items at of_level =
    let row = row_of_class ais set i of class at in
    let both : Some items ≡ Some (alone (present row.row.items)) = sym of_level ∙ level_items ais set i of row.row row.at in
    let same : items ≡ alone (present row.row.items) = cc in
    rw same (all_items false (alone (present row.row.items)) row.kept.bounds.none_bad)

-- each value of the element of a class counts
value_counts : (ais : List AiRow) (set : ClassRows) (of : IsOfTable ais set) (i : ℕ) (class : Class) (value : List ℕ)
    → slice_get set.classes i ≡ Some class → stands_for_none ais (record { code = class.element; value = value }) ≡ false
value_counts ais set of i class value at =
    let row = row_of_class ais set i of class at in
    subst (λ (c : Class). stands_for_none ais (record { code = c.element; value = value }) ≡ false) (sym row.class_is) (none_stands ais row.row row.kept value)

laid_elements : (ais : List AiRow) (class : Class) (said : KeyFields) → stands_for_none ais (record { code = class.element; value = said.serial }) ≡ false
    → lay ais (kind_of class) said ≡ record { key = key_pair ais (kind_of class) said; qualifiers = record { code = class.element; value = said.serial } ∷ []; attributes = [] }
laid_elements ais class said counts = rw counts refl

pub read_is_written : (ais : List AiRow) (set : ClassRows) (prefixes : List PrefixEntry) (text : List ℕ) (identity : Elements)
    → IsOfTable ais set → (read : IsClass ais set text identity)
    → (written : List ℕ) × (class_answer ais set prefixes (Some read.class.gcp) identity ≡ Ok written)
read_is_written ais set prefixes text identity of read =
    let d = read.derivation in
    let said = said_by read.class d.values in
    let word = lot_has_word read.class.fields d.items d.values d.words d.derives.each (good_items ais set of d.option read.class d.items read.named d.of_level) in
    let items : items_at set d.option ≡ d.items = ap (λ (o : Option (List Item)). option_map_or (λ its. its) o []) d.of_level in
    let fits : why_not_lot read.class.fields (items_at set d.option) said.serial ≡ None = rw items word in
    let value = (key_pair ais (kind_of read.class) said).value in
    let laid = read.is ∙ laid_elements ais read.class said (value_counts ais set of d.option read.class said.serial read.named) in
    let own = answer ais set of d.option read.class read.named value said.serial prefixes fits in
    let text_is = written (items_at set d.option) (values_for (fields_at (parts_at ais read.class.key) (kind_of read.class) read.class.gcp value said.serial) read.class.fields) in
    (text_is, subst (λ (e : Elements). class_answer ais set prefixes (Some read.class.gcp) e ≡ Ok text_is) (sym laid) own)
