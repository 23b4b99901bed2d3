use Rattle.std.proofs.Common.{length}
use Rattle.gs_ai.proofs.value.+keep_checks.Given as goal

abbrev pub decreases-keep_checks : goal.decreases-keep_checks
decreases-keep_checks l = length l.parts.now
