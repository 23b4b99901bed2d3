use Rattle.gs_membank.proofs.RoundTrips.{dump_back}
use Rattle.gs_membank.proofs.laws.dump_written_is_read.Goals as goal

pub returns : goal.returns
returns c = dump_back
