-- The set that the migrated text of a table document loads to. This project's own.
use Rattle.std.specs.Prelude.{ℕ, List, Ok}
use Rattle.gs_tables.specs.Shapes.{LoadAnswer}
use Rattle.gs_tables.specs.Tables.{TableRows}

-- trusted, own: holds if `bytes` load to a set
abbrev pub Loads : List ℕ → Type 0
Loads bytes = (set : TableRows) × LoadAnswer bytes (Ok set)

-- trusted, own: holds if `text` loads to each set that `bytes` load to
abbrev pub LoadsAlike : List ℕ → List ℕ → Type 0
LoadsAlike bytes text = (set : TableRows) → LoadAnswer bytes (Ok set) → LoadAnswer text (Ok set)
