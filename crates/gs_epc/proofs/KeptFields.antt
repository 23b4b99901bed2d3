-- The values of the fields of an option, by the items that stand for them.
use Rattle.std.proofs.Common.{◌≡◌, ℕ, Bool, true, false, List, [], ◌∷◌, length, position, Option, Some, None, refl, arith, inl, inr}
use Rattle.gs_chars.proofs.TruthsAndLists.{true_or_false}
use Rattle.gs_ai.specs.Tables.{is_empty}
use Rattle.gs_chars.specs.Characters.{are_digits}
use Rattle.gs_grammar.specs.declared.item.Item.{Item}
use Rattle.gs_grammar.specs.Derivations.{EachWord, one_item}
use Rattle.gs_grammar.specs.Items.{IsItem, is_bad}
use Rattle.gs_grammar.specs.Words.{Word}
use Rattle.gs_grammar.proofs.WordLaws.{all_items}
use Rattle.gs_tables_document.specs.declared.document.Field.{Field}
use Rattle.gs_tables_document.specs.Items.{FieldItem, alone, fields_of}
use Rattle.gs_tables.specs.Rules.{has_room, is_digits, is_field, is_number, is_one, items_of_field}
use Rattle.gs_epc.specs.Epcs.{value_at, value_of}
use Rattle.gs_epc.specs.KeptFields.{AreCharacters, AreNumbers}
use Rattle.gs_epc.proofs.KeptItems.{characters_of_word, digits_of_word, numbers_of_word}
use Rattle.gs_chars.proofs.Searches.{cons_none}

-- the items hold the values, and none of the items is bad
pub record AreHeld (bits : Bool) (items : List FieldItem) (values words : List (List ℕ)) : Type 0 where
  pub each : EachWord (alone items) values words
  pub good : position (is_bad bits) (alone items) ≡ None

-- the value of a field is a word's value of an item
record IsValueOf (field : Field) (item : Item) (fields : List (Option Field)) (values : List (List ℕ)) : Type 0 where
  value : List ℕ
  w : List ℕ
  at : value_at field fields values ≡ Some value
  word : Word item value w
  good : IsItem item

-- ---- no item, and one item

no_value : (field : Field) (items : List FieldItem) (values : List (List ℕ)) → items_of_field field items ≡ [] → value_at field (fields_of items) values ≡ None
no_value field [] values h = refl
no_value field (i ∷ items) [] h = refl
no_value field (i ∷ items) (value ∷ values) h = elim (true_or_false (is_field field i.0)) as
    (λ _. value_at field (i.0 ∷ fields_of items) (value ∷ values) ≡ None) [
      | inl e ↦ absurd (let f : i.1 ∷ items_of_field field items ≡ [] = rw e at h in cc)
      | inr e ↦ rw e (no_value field items values (rw e at h))
    ]

one_value : (bits : Bool) (field : Field) (items : List FieldItem) (values words : List (List ℕ)) (item : Item)
    → EachWord (alone items) values words → position (is_bad bits) (alone items) ≡ None → items_of_field field items ≡ item ∷ []
    → IsValueOf field item (fields_of items) values
one_value bits field [] values words item each good h = absurd (let f : [] ≡ item ∷ [] = h in cc)
one_value bits field (i ∷ items) values words item (one_item x value w others rest more word each) good h = elim (true_or_false (is_field field i.0)) as (λ _. IsValueOf field item (i.0 ∷ fields_of items) (value ∷ rest)) [
  | inl e ↦ let f : i.1 ∷ items_of_field field items ≡ item ∷ [] = rw e at h in
      let same : i.1 ≡ item = cc in
      record { value = value; w = w; at = rw e refl; word = rw same at word; good = rw same at (all_items bits (i.1 ∷ alone items) good 0 i.1 (omega arith)) }
  | inr e ↦ let r = one_value bits field items rest more item each (cons_none (is_bad bits) i.1 (alone items) good).1 (rw e at h) in
      record { value = r.value; w = r.w; at = rw e r.at; word = r.word; good = r.good }
]

pub the_one : (test : Item → Bool) (items : List Item) → is_one test items ≡ true → (item : Item) × (items ≡ item ∷ []) × (test item ≡ true)
the_one test [] h = absurd (let f : false ≡ true = h in cc)
the_one test (item ∷ []) h = (item, refl, h)
the_one test (item ∷ other ∷ items) h = absurd (let f : false ≡ true = h in cc)

-- ---- the value of a field

-- the field has no item
pub nothing_of : (field : Field) (items : List FieldItem) (values : List (List ℕ)) → is_empty (items_of_field field items) ≡ true
    → value_of field (fields_of items) values ≡ []
nothing_of field items values h = rw (no_value field items values (empty (items_of_field field items) h)) refl
  where
    empty : {X : Type 0} (xs : List X) → is_empty xs ≡ true → xs ≡ []
    empty [] h = refl
    empty (x ∷ xs) h = absurd (let f : false ≡ true = h in cc)

-- the field has one item, of that many digits
pub digits_of : (bits : Bool) (field : Field) (items : List FieldItem) (values words : List (List ℕ)) (n : ℕ)
    → AreHeld bits items values words → is_one (is_digits n) (items_of_field field items) ≡ true
    → (length (value_of field (fields_of items) values) ≡ n) × (are_digits (value_of field (fields_of items) values) ≡ true)
digits_of bits field items values words n held h =
    let one = the_one (is_digits n) (items_of_field field items) h in
    let r = one_value bits field items values words one.0 held.each held.good one.1 in
    rw r.at (digits_of_word n one.0 r.value r.w one.2 r.word)

-- the field has one item, with room
pub characters_of : (bits : Bool) (field : Field) (items : List FieldItem) (values words : List (List ℕ)) (most : ℕ)
    → AreHeld bits items values words → is_one (has_room most) (items_of_field field items) ≡ true
    → AreCharacters most (value_of field (fields_of items) values)
characters_of bits field items values words most held h =
    let one = the_one (has_room most) (items_of_field field items) h in
    let r = one_value bits field items values words one.0 held.each held.good one.1 in
    rw r.at (characters_of_word most one.0 r.value r.w r.good one.2 r.word)

-- the field has one item, a number with room
pub numbers_of : (bits : Bool) (field : Field) (items : List FieldItem) (values words : List (List ℕ)) (most : ℕ)
    → AreHeld bits items values words → is_one (is_number most) (items_of_field field items) ≡ true
    → AreNumbers most (value_of field (fields_of items) values)
numbers_of bits field items values words most held h =
    let one = the_one (is_number most) (items_of_field field items) h in
    let r = one_value bits field items values words one.0 held.each held.good one.1 in
    rw r.at (numbers_of_word most one.0 r.value r.w r.good one.2 r.word)
