-- Definitions for proofs and private functions, in addition to Values.antt.
use Rattle.std.specs.Prelude.{ℕ, Bool, ◌&&◌, List}
use Rattle.std.specs.List.{list_all}
use Rattle.gs_ai.specs.declared.part.Part.{Part}
use Rattle.gs_ai.specs.Parts.{is_of_part}
use Rattle.gs_ai.specs.Values.{keeps_check, keeps_date, pieces}

-- holds if each character may be in the part, and the part keeps its check digit and its date
abbrev pub fits : Part → List ℕ → Bool
fits p piece = list_all (is_of_part p) piece && (keeps_check (p, piece) && keeps_date (p, piece))

-- holds if each part fits the characters that are its own
abbrev pub each_fits : List Part → List ℕ → Bool
each_fits parts value = list_all (λ piece. fits piece.0 piece.1) (pieces parts value)
