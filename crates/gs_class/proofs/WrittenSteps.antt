-- The class that writes, found by its name and its length.
use Rattle.std.proofs.Common.{◌≡◌, ℕ, ◌<◌, ◌==◌, false, true, List, length, position, Some, option_map, bytes_eq, slice_get, get_or, refl, sym, ap, ◌∙◌, arith}
use Rattle.std.specs.Prelude.{Result}
use Rattle.std.proofs.lemmas.Option.{slice_get-map, slice_get_within}
use Rattle.gs_chars.proofs.TruthsAndLists.{read_at}
use Rattle.gs_ai.specs.declared.row.AiRow.{AiRow}
use Rattle.gs_ident.specs.Elements.{Elements}
use Rattle.gs_grammar.specs.Levels.{AreOfKind, LevelForm, OptionForm, item_lists}
use Rattle.gs_class.specs.declared.class_set.Class.{Class}
use Rattle.gs_class.specs.declared.error.ClassWriteFault.{ClassWriteFault}
use Rattle.gs_class.specs.Sets.{ClassRows}
use Rattle.gs_class.specs.Written.{by_items, by_length, is_sized}
use Rattle.gs_class.specs.WrittenSupport.{CanBeWritten, CanWrite}
use Rattle.gs_chars.proofs.Searches.{position_some}
use Rattle.std.proofs.lemmas.Bool.{and_parts}
use Rattle.gs_class.specs.declared.error.ClassWriteFault.TheVariants.{Memory}
use Rattle.gs_chars.specs.Answers.{OrError}

-- the class and the option at the place that was found
pub record IsSized (set : ClassRows) (name : List ℕ) (n i : ℕ) (class : Class) (option : OptionForm) : Type 0 where
  pub place : position (is_sized name n) set.classes ≡ Some i
  pub class_at : slice_get set.classes i ≡ Some class
  pub option_at : slice_get set.level.options i ≡ Some option
  pub named : bytes_eq name class.name ≡ true

module _ (ais : List AiRow) (set : ClassRows) (name : List ℕ) (n : ℕ) (identity : Elements) (can : CanBeWritten ais set name identity)
    (classes : List Class) (level : LevelForm) (options : List OptionForm) (i : ℕ)
    (rows : classes ≡ set.classes) (same : level ≡ set.level) (listed : options ≡ level.options) (place : Some i ≡ position (is_sized name n) classes) where
  found : (class : Class) × (slice_get set.classes i ≡ Some class) × (is_sized name n class ≡ true)
  found = position_some (is_sized name n) set.classes i (sym (rw rows at place))

  pub option_low : i < length options
  option_low =
      let low = slice_get_within set.classes i found.0 found.1 in
      let many = can.as_many in
      let e : length options ≡ length set.level.options = rw (listed, same) refl in
      omega arith

  pub sized_is : (class : Class) (option : OptionForm) → class ≡ get_or classes i class → option ≡ get_or options i option → IsSized set name n i class option
  sized_is class option a b =
      let low = slice_get_within set.classes i found.0 found.1 in
      let here : slice_get classes i ≡ Some class = read_at classes i class (rw rows low) a in
      let there : slice_get set.classes i ≡ Some class = rw rows at here in
      let both : Some found.0 ≡ Some class = sym found.1 ∙ there in
      let equal : found.0 ≡ class = cc in
      let passes : is_sized name n class ≡ true = rw equal at found.2 in
      let option_here : slice_get options i ≡ Some option = read_at options i option option_low b in
      record {
        place = sym (rw rows at place);
        class_at = there;
        option_at = rw (listed, same) at option_here;
        named = (and_parts (bytes_eq name class.name) (class.gcp == n) passes).0;
      }

  pub of_texts : (option : OptionForm) → AreOfKind level.bit_level level.options → option ≡ get_or options i option → option.bit_level ≡ false
  of_texts option kinds b =
      let all : AreOfKind level.bit_level options = rw listed kinds in
      let kind : (get_or options i option).bit_level ≡ level.bit_level = all i option option_low in
      ap (λ (o : OptionForm). o.bit_level) b ∙ kind ∙ ap (λ (l : LevelForm). l.bit_level) same ∙ can.texts

pub can_write_at : (ais : List AiRow) (set : ClassRows) (name : List ℕ) (n i : ℕ) (class : Class) (option : OptionForm) (identity : Elements)
    → CanBeWritten ais set name identity → IsSized set name n i class option → CanWrite ais class option.items identity
can_write_at ais set name n i class option identity can is = can.each i class option is.class_at is.option_at is.named

pub answer_at : (ais : List AiRow) (set : ClassRows) (naming class : Class) (n i : ℕ) (option : OptionForm) (identity : Elements) (answer : Result (List ℕ) ClassWriteFault)
    → IsSized set naming.name n i class option → OrError Memory answer (by_items ais class identity option.items)
    → OrError Memory answer (by_length ais set identity naming n)
unfolding by_length
answer_at ais set naming class n i option identity answer is h =
    let items : slice_get (item_lists set.level.options) i ≡ Some option.items = slice_get-map (λ (o : OptionForm). o.items) set.level.options i ∙ mapped is.option_at in
    rw (is.place, is.class_at, items) h
  where
    mapped : slice_get set.level.options i ≡ Some option → option_map (λ (o : OptionForm). o.items) (slice_get set.level.options i) ≡ Some option.items
    mapped e = ap (option_map (λ (o : OptionForm). o.items)) e
