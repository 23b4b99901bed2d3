-- Definitions for proofs and private functions, in addition to Paths.antt.
use Rattle.std.specs.Prelude.{ℕ, Bool, false, List, bytes_eq, slice_get}
use Rattle.std.specs.Option.{option_map_or}
use Rattle.gs_dlink.specs.Uris.{Written}

-- holds if the pair at an index has the code
abbrev pub is_code_at : List Written → ℕ → List ℕ → Bool
is_code_at pairs index code = option_map_or (λ (pair : Written). bytes_eq code pair.code) (slice_get pairs index) false
