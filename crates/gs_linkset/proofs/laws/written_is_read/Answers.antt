use Rattle.gs_linkset.proofs.RoundTrip.{written_back}
use Rattle.gs_linkset.proofs.laws.written_is_read.Goals as goal

pub returns : goal.returns
returns c contexts h = written_back contexts h
