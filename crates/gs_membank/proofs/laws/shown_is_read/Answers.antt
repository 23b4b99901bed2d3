use Rattle.gs_membank.proofs.RoundTrips.{shown_back}
use Rattle.gs_membank.proofs.laws.shown_is_read.Goals as goal

pub returns : goal.returns
returns c = shown_back
