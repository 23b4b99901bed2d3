-- Definitions for proofs and private functions, in addition to Requests.antt.
use Rattle.std.specs.Prelude.{ℕ, List}
use Rattle.tdl_arguments.specs.declared.command.Command.{Command}
use Rattle.tdl_arguments.specs.Requests.{Asked, Asks}

-- holds if the arguments after a command and its operands ask for nothing
abbrev pub AsksNothing : Command → List (List ℕ) → Type 0
AsksNothing command words = (asked : Asked) → Asks command words asked → ⊥
