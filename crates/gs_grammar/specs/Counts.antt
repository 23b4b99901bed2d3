-- The number of derivations of a list of symbols in a level.
use Rattle.std.specs.Prelude.{ℕ, List}
use Rattle.gs_grammar.specs.declared.item.Item.{Item}
use Rattle.gs_grammar.specs.Derivations.{Derivation, OneDerivation, TwoDerivations}

-- trusted, own: holds if `w` has no derivation in `level`, one, with its option and its values, or two different ones
pub data Counted (level : List (List Item)) (w : List ℕ) : Type 0 where
  none_of : (Derivation level w → ⊥) → Counted level w
  one_of : (option : ℕ) (values : List (List ℕ)) → OneDerivation level w option values → Counted level w
  two_of : TwoDerivations level w → Counted level w
