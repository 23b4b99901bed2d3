use Rattle.std.proofs.Common.{◌≡◌, false, take}
use Rattle.tdl_arguments.specs.Wrongs.{is_option}
use Rattle.tdl_arguments.proofs.wrong.is_option.Given as goal

-- no row before has the word
abbrev pub invariant-loop-row : goal.invariant-loop-row
invariant-loop-row l = is_option (take l.row-index l.rows) l.word ≡ false
