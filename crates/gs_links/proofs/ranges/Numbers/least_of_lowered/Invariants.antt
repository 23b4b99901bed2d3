use Rattle.std.proofs.Common.{◌≤◌}
use Rattle.gs_links.specs.Numbers.{number_at}
use Rattle.gs_links.proofs.NumberLemmas.{IsLeastBefore}
use Rattle.gs_links.proofs.ranges.Numbers.least_of_lowered.Given as goal

abbrev pub invariant-loop-i : goal.invariant-loop-i
invariant-loop-i l = (l.least ≤ number_at l.self l.tag) × IsLeastBefore l.self l.tag l.i l.least
