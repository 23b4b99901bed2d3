-- Definitions for proofs and private functions, in addition to Layout.antt.
use Rattle.std.specs.Prelude.{ℕ, List, [], ◌∷◌, Option, Some, None}
use Rattle.gs_ai.specs.declared.pair.Pair.{Pair}
use Rattle.gs_tables_document.specs.declared.document.SerialAt.{SerialAt}
use Rattle.gs_tables_document.specs.declared.document.SerialAt.TheVariants.{Nowhere, Tail, Ai}

-- the pair of a serial in a separate element
abbrev pub serial_pairs : SerialAt → List ℕ → List Pair
serial_pairs (Ai code) serial = record { code = code; value = serial } ∷ []
serial_pairs Tail serial = []
serial_pairs Nowhere serial = []

-- the pair of a serial that has this code, and none if it has no code
abbrev pub coded_pairs : Option (List ℕ) → List ℕ → List Pair
coded_pairs (Some code) serial = record { code = code; value = serial } ∷ []
coded_pairs None serial = []
