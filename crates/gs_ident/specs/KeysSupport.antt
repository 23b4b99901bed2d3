-- Definitions for proofs and private functions, in addition to Keys.antt.
use Rattle.std.specs.Prelude.{ℕ, Bool, not, ◌&&◌, List, bytes_eq}
use Rattle.gs_ai.specs.declared.row.AiRow.{AiRow}
use Rattle.gs_ai.specs.Tables.{is_empty}

-- holds if the value is the text of the row that means none
abbrev pub is_none_text : AiRow → List ℕ → Bool
is_none_text row value = not (is_empty row.none) && bytes_eq row.none value
