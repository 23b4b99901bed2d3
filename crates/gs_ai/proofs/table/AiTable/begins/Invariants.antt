use Rattle.std.proofs.Common.{◌≡◌, ◌<◌, ℕ, Some, false, slice_get}
use Rattle.gs_ai.specs.declared.row.AiRow.{AiRow}
use Rattle.gs_ai.specs.Tables.{begins}
use Rattle.gs_ai.proofs.table.AiTable.begins.Given as goal

-- no code of the places so far begins the text
abbrev pub invariant-loop-place : goal.invariant-loop-place
invariant-loop-place l = (k i : ℕ) (row : AiRow) → k < l.place-index → slice_get l.places k ≡ Some i → slice_get l.self i ≡ Some row
    → begins row.code l.text ≡ false
