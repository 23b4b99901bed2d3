-- The class and fields of a reading in the level of a set.
use Rattle.std.proofs.Common.{◌≡◌, ℕ, ◌<◌, List, [], ◌++◌, length, Some, slice_get, get_or, sym, ap, subst, ◌∙◌}
use Rattle.std.proofs.lemmas.Option.{slice_get_within}
use Rattle.gs_chars.proofs.TruthsAndLists.{read_at}
use Rattle.gs_ai.specs.declared.row.AiRow.{AiRow}
use Rattle.gs_ai.specs.Tables.{KeepsRules}
use Rattle.gs_ident.specs.Elements.{Elements}
use Rattle.gs_grammar.specs.Derivations.{Derivation, OneDerivation}
use Rattle.gs_grammar.specs.Levels.{LevelForm, item_lists}
use Rattle.gs_epc.specs.Layout.{AreKeyDigits, KeyFields, key_digits, lay, with_check}
use Rattle.gs_class.specs.declared.class_set.Class.{Class}
use Rattle.gs_class.specs.Meanings.{IsClass, said_by}
use Rattle.gs_class.specs.MeaningsSupport.{FitsClass}
use Rattle.gs_class.specs.Sets.{ClassRows, IsOfTable, class_of, kind_of}
use Rattle.gs_class.proofs.ClassIdentities.{digits_fit, fits_class}
use Rattle.gs_class.proofs.KeptClasses.{class_at}
use Rattle.gs_class.proofs.SetParts.{class_of_row, row_of_items}

-- ---- the class of a reading

-- the class at the option of a derivation, whose values fit it
pub record ReadClass (ais : List AiRow) (set : ClassRows) (option : ℕ) (values : List (List ℕ)) : Type 0 where
  pub class : Class
  pub at : slice_get set.classes option ≡ Some class
  pub fits : FitsClass ais class (said_by class values)

pub class_read : (ais : List AiRow) (set : ClassRows) (text : List ℕ) (option : ℕ) (values : List (List ℕ)) → IsOfTable ais set
    → OneDerivation (item_lists set.level.options) text option values → ReadClass ais set option values
class_read ais set text option values of one =
    let d = one.derivation in
    let here : slice_get (item_lists set.level.options) option ≡ Some d.items = rw one.of_option at d.of_level in
    let row = row_of_items ais set option of d.items here in
    let each = rw (row.2, one.of_values) at d.derives.each in
    record { class = class_of row.0; at = class_of_row ais set option of row.0 row.1; fits = fits_class ais row.0 (class_at ais of.rows option row.0 of.in_order row.1) values d.words each }

module _ (ais : List AiRow) (set : ClassRows) (text : List ℕ) (option : ℕ) (values : List (List ℕ)) (classes : List Class)
    (of : IsOfTable ais set) (one : OneDerivation (item_lists set.level.options) text option values) (rows : classes ≡ set.classes) where
  -- a class is at the option
  pub class_low : option < length classes
  class_low = let read = class_read ais set text option values of one in rw rows (slice_get_within set.classes option read.class read.at)

  the_class : (class : Class) → class ≡ get_or classes option class → slice_get set.classes option ≡ Some class
  the_class class read = rw rows at (read_at classes option class class_low read)

  -- the values fit the class that is read at its place
  pub fits_read : (class : Class) → class ≡ get_or classes option class → FitsClass ais class (said_by class values)
  fits_read class read =
      let own = class_read ais set text option values of one in
      let both : Some own.class ≡ Some class = sym own.at ∙ the_class class read in
      let same : own.class ≡ class = cc in
      rw same at own.fits

  -- the text is a class URI of the fields of the values
  pub is_class : (class : Class) (identity : Elements) → class ≡ get_or classes option class
      → identity ≡ lay ais (kind_of class) (said_by class values) → IsClass ais set text identity
  is_class class identity read is = record {
    derivation = one.derivation;
    class = class;
    named = rw one.of_option (the_class class read);
    is = rw one.of_values is;
  }

-- without a derivation there is no class
pub no_class : (ais : List AiRow) (set : ClassRows) (text : List ℕ) → (Derivation (item_lists set.level.options) text → ⊥)
    → (identity : Elements) → IsClass ais set text identity → ⊥
no_class ais set text none identity is = none is.derivation

-- ---- the digits of the key

pub digits_read : (ais : List AiRow) (class : Class) (said : KeyFields) (prefix rest : List ℕ) → FitsClass ais class said → KeepsRules ais
    → prefix ≡ said.prefix → rest ≡ said.rest → AreKeyDigits class.lead prefix rest
digits_read ais class said prefix rest fits rules a b = rw (a, b) (digits_fit ais class said fits rules)

pub key_written : (class : Class) (said : KeyFields) (old new prefix rest : List ℕ) → old ≡ [] → prefix ≡ said.prefix → rest ≡ said.rest
    → new ≡ old ++ with_check (key_digits class.lead prefix rest) → new ≡ with_check (key_digits class.lead said.prefix said.rest)
key_written class said old new prefix rest none a b e = rw (none, a, b) at e

-- ---- the element that the code names

pub one_here : (set : ClassRows) (level : LevelForm) (text : List ℕ) (option : ℕ) (values : List (List ℕ)) → level ≡ set.level
    → OneDerivation (item_lists level.options) text option values → OneDerivation (item_lists set.level.options) text option values
one_here set level text option values same one = subst (λ (l : LevelForm). OneDerivation (item_lists l.options) text option values) same one

pub fits_values : (ais : List AiRow) (class : Class) (values given : List (List ℕ)) → given ≡ values
    → FitsClass ais class (said_by class values) → FitsClass ais class (said_by class given)
fits_values ais class values given same fits = subst (λ (v : List (List ℕ)). FitsClass ais class (said_by class v)) (sym same) fits

pub same_values : (ais : List AiRow) (class : Class) (values given : List (List ℕ)) (identity : Elements) → given ≡ values
    → identity ≡ lay ais (kind_of class) (said_by class given) → identity ≡ lay ais (kind_of class) (said_by class values)
same_values ais class values given identity same is = is ∙ ap (λ (v : List (List ℕ)). lay ais (kind_of class) (said_by class v)) same
