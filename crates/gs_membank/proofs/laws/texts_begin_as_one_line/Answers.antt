use Rattle.gs_membank.proofs.RoundTrips.{one_start}
use Rattle.gs_membank.proofs.laws.texts_begin_as_one_line.Goals as goal

pub returns : goal.returns
returns c = one_start
