use Rattle.std.proofs.Common.{length, ◌-◌}
use Rattle.tdl_arguments.proofs.wrong.+wrong_from.Given as goal

abbrev pub decreases-wrong_from : goal.decreases-wrong_from
decreases-wrong_from l = length l.options.now - l.place
