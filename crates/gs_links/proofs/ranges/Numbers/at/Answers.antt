use Rattle.std.proofs.Common.{ap}
use Rattle.std.specs.Option.{unwrap_or}
use Rattle.gs_links.specs.Numbers.{number_at}
use Rattle.gs_links.proofs.ranges.Numbers.at.Goals as goal

pub returns-in-Some : goal.returns-in-Some
unfolding number_at
returns-in-Some c = ap (λ o. unwrap_or o 18446744073709551615) c.in-Some.ensures.value

pub returns-in-None : goal.returns-in-None
unfolding number_at
returns-in-None c = ap (λ o. unwrap_or o 18446744073709551615) c.in-None.ensures.value
