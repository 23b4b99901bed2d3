-- Definitions for proofs and private functions, in addition to Answers.antt.
use Rattle.std.specs.Prelude.{◌≡◌, List, Result, Ok, Err}
use Rattle.gs_chars.specs.Answers.{first_or}
use Rattle.gs_grammar.specs.Ambiguity.{IsUnambiguous, ShowsFirstShare}
use Rattle.gs_grammar.specs.Levels.{LevelForm, item_lists}
use Rattle.gs_class.specs.declared.error.ClassLoadFault.{ClassLoadFault}
use Rattle.gs_class.specs.declared.error.ClassLoadFault.TheVariants.{Ambiguous, Memory}

-- holds if the result is the first of the rejections, or Ok if there are none
abbrev pub IsFirst : List ClassLoadFault → Result (Unit {0}) ClassLoadFault → Type 0
IsFirst rejections answer = answer ≡ first_or rejections tt

-- holds if the level is judged as not ambiguous, or by its first pair; or memory ran out
abbrev pub IsLevelJudged : LevelForm → Result (Unit {0}) ClassLoadFault → Type 0
IsLevelJudged level (Ok _) = IsUnambiguous (item_lists level.options)
IsLevelJudged level (Err (Ambiguous i j text)) = ShowsFirstShare level i j text
IsLevelJudged level (Err Memory) = Unit {0}
IsLevelJudged level (Err _) = ⊥
