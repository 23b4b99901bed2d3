-- The classes of a set, by the rows that it is made of.
use Rattle.std.proofs.Common.{◌≡◌, ℕ, false, List, [], map, Some, slice_get, refl, sym, ap, ◌∙◌, length}
use Rattle.std.specs.Option.{option_map}
use Rattle.std.specs.Prelude.{All}
use Rattle.std.proofs.lemmas.List.{length-map}
use Rattle.std.proofs.lemmas.List.Elements.{All-map}
use Rattle.std.proofs.lemmas.Option.{slice_get-map}
use Rattle.gs_chars.proofs.TruthsAndLists.{mapped_some}
use Rattle.gs_ai.specs.declared.row.AiRow.{AiRow}
use Rattle.gs_grammar.specs.declared.item.Item.{Item}
use Rattle.gs_grammar.specs.Levels.{OptionForm, item_lists}
use Rattle.gs_tables_document.specs.Items.{alone, present}
use Rattle.gs_class.specs.declared.class_set.Class.{Class}
use Rattle.gs_class.specs.declared.document.ClassRow.{ClassRow}
use Rattle.gs_grammar.specs.Levels.{LevelForm}
use Rattle.gs_class.specs.Rules.{class_rejections}
use Rattle.gs_class.specs.Sets.{ClassRows, IsOfTable, class_of, option_of, set_of}
use Rattle.gs_class.proofs.KeptClasses.{KeptClass, class_at}

-- the row of a class
pub record RowOf (ais : List AiRow) (set : ClassRows) (i : ℕ) (of : IsOfTable ais set) (class : Class) : Type 0 where
  pub row : ClassRow
  pub at : slice_get of.rows i ≡ Some row
  pub class_is : class ≡ class_of row
  pub kept : KeptClass ais row

pub row_of_class : (ais : List AiRow) (set : ClassRows) (i : ℕ) (of : IsOfTable ais set) (class : Class)
    → slice_get set.classes i ≡ Some class → RowOf ais set i of class
row_of_class ais set i of class at =
    let here : slice_get (map class_of of.rows) i ≡ Some class = rw of.made at at in
    let row = mapped_some class_of (slice_get of.rows i) class (sym (slice_get-map class_of of.rows i) ∙ here) in
    record { row = row.0; at = row.1; class_is = sym row.2; kept = class_at ais of.rows i row.0 of.in_order row.1 }

-- the option of a row
pub option_at : (ais : List AiRow) (set : ClassRows) (i : ℕ) (of : IsOfTable ais set) (row : ClassRow) → slice_get of.rows i ≡ Some row
    → slice_get set.level.options i ≡ Some (option_of row)
option_at ais set i of row at = rw of.made (slice_get-map option_of of.rows i ∙ ap (option_map option_of) at)

-- the items of a row
pub items_at : (ais : List AiRow) (set : ClassRows) (i : ℕ) (of : IsOfTable ais set) (row : ClassRow) → slice_get of.rows i ≡ Some row
    → slice_get (item_lists set.level.options) i ≡ Some (alone (present row.items))
items_at ais set i of row at = slice_get-map (λ (o : OptionForm). o.items) set.level.options i ∙ ap
    (option_map (λ (o : OptionForm). o.items)) (option_at ais set i of row at)

-- an option has its row
pub row_of_items : (ais : List AiRow) (set : ClassRows) (i : ℕ) (of : IsOfTable ais set) (items : List Item)
    → slice_get (item_lists set.level.options) i ≡ Some items
    → (row : ClassRow) × (slice_get of.rows i ≡ Some row) × (items ≡ alone (present row.items))
row_of_items ais set i of items at =
    let made : slice_get (item_lists (map option_of of.rows)) i ≡ Some items = rw of.made at at in
    let option = mapped_some (λ (o : OptionForm). o.items) (slice_get (map option_of of.rows) i) items (sym (slice_get-map (λ (o : OptionForm). o.items) (map option_of of.rows) i) ∙ made) in
    let row = mapped_some option_of (slice_get of.rows i) option.0 (sym (slice_get-map option_of of.rows i) ∙ option.1) in
    (row.0, row.1, sym option.2 ∙ ap (λ (o : OptionForm). o.items) (sym row.2))

-- the class of a row
pub class_of_row : (ais : List AiRow) (set : ClassRows) (i : ℕ) (of : IsOfTable ais set) (row : ClassRow) → slice_get of.rows i ≡ Some row
    → slice_get set.classes i ≡ Some (class_of row)
class_of_row ais set i of row at = rw of.made (slice_get-map class_of of.rows i ∙ ap (option_map class_of) at)

-- the options of rows have the symbols of texts
pub all_texts : (options : List OptionForm) (rows : List ClassRow) → options ≡ map option_of rows
    → All (λ (option : OptionForm). option.bit_level ≡ false) options
all_texts options rows made =
    let all : All (λ (row : ClassRow). false ≡ false) rows = λ k d low. refl in
    rw made (All-map (λ (option : OptionForm). option.bit_level ≡ false) option_of rows all)

-- ---- the set of no class

abbrev with_parts : LevelForm → List Class → ClassRows
with_parts level classes = record { level = level; classes = classes }

no_rows : (ais : List AiRow) → class_rejections ais [] ≡ []
unfolding class_rejections
no_rows ais = refl

none_is : (level : LevelForm) (classes : List Class) → level.bit_level ≡ false → level.options ≡ [] → classes ≡ [] → with_parts level classes ≡ set_of []
none_is level classes a b d = λ i. record { level = record { bit_level = a i; options = b i }; classes = d i }

pub none_of_table : (level : LevelForm) (classes : List Class) → level.bit_level ≡ false → level.options ≡ [] → classes ≡ []
    → (ais : List AiRow) → IsOfTable ais (record { level = level; classes = classes })
none_of_table level classes a b d ais = record { rows = []; in_order = no_rows ais; made = none_is level classes a b d }

-- ---- as many options as classes

pub as_many : (ais : List AiRow) (set : ClassRows) → IsOfTable ais set → length set.classes ≡ length set.level.options
as_many ais set of = rw of.made (length-map of.rows class_of ∙ sym (length-map of.rows option_of))

pub are_texts : (ais : List AiRow) (set : ClassRows) → IsOfTable ais set → set.level.bit_level ≡ false
are_texts ais set of = rw of.made refl
