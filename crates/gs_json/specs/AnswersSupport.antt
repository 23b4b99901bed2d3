-- Definitions that proofs and private functions use with those of Answers.antt.
use Rattle.std.specs.Prelude.{◌≡◌, ◌⊎◌}
use Rattle.gs_json.specs.declared.error.JsonFault.{JsonFault}
use Rattle.gs_json.specs.declared.error.JsonFault.TheVariants.{Memory}

-- holds if `error` is `wanted` or `Memory`
abbrev pub IsError : JsonFault → JsonFault → Type 0
IsError error wanted = (error ≡ Memory) ⊎ (error ≡ wanted)
