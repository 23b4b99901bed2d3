-- Definitions for proofs and private functions, in addition to those of NumeralTables.antt.
use Rattle.std.specs.Prelude.{◌≡◌, ℕ, ◌+◌, List, ◌++◌, decimal, length}
use Rattle.gs_ambig.specs.declared.machine.Edge.{Edge}
use Rattle.gs_grammar_compile.specs.NumeralTables.{numeral_table}

-- holds if the second table is the first, and after it the states of a decimal text up to the greatest
abbrev pub AddsNumeral : ℕ → List (List Edge) → List (List Edge) → Type 0
AddsNumeral greatest table new = (n : ℕ) → n + 1 ≡ length (decimal greatest) → new ≡ table ++ numeral_table n greatest (length table)
