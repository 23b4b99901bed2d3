-- The reading of a list of symbols.
use Rattle.std.specs.Prelude.{ℕ, List}
use Rattle.gs_grammar.specs.declared.item.Item.{Item}
use Rattle.gs_grammar_level.specs.declared.read.Reading.{Reading}
use Rattle.gs_grammar_level.specs.declared.read.Reading.TheVariants.{One, Nothing, Memory}
use Rattle.gs_grammar.specs.Derivations.{Derivation, OneDerivation}

-- trusted, own: Holds if the answer is the option and the values of the only derivation of `w` in `level`, or that there is
-- none. `Memory` may be returned instead of either.
abbrev pub Reads : List (List Item) → List ℕ → Reading → Type 0
Reads level w (One option values) = OneDerivation level w option values
Reads level w Nothing = Derivation level w → ⊥
Reads level w Memory = Unit {0}
