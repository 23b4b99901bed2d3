use Rattle.gs_epc.proofs.ReadLaws.{read_back}
use Rattle.gs_epc.proofs.laws.what_is_written_is_read.Goals as goal

pub returns : goal.returns
returns c = read_back
