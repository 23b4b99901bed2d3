-- The answers of an answerer that gives each text back.
use Rattle.std.specs.Prelude.{◌≡◌, ◌⊎◌, ℕ, ◌<◌, ◌≤◌, List, codes, length}
use Rattle.tdl_lines.specs.Outputs.{LineAnswer}
use Rattle.tdl_lines.specs.Outputs.LineAnswer.{accepted, rejected}

-- holds if a text above 2,048 bytes is long, and every other is accepted unchanged
abbrev pub IsEcho : List ℕ → LineAnswer → Type 0
IsEcho text answer = ((2048 < length text) × (answer ≡ rejected (codes "long"))) ⊎ ((length text ≤ 2048) × (answer ≡ accepted text))
