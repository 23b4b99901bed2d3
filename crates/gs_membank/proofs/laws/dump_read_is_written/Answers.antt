use Rattle.gs_membank.proofs.ReadAgain.{read_again}
use Rattle.gs_membank.proofs.laws.dump_read_is_written.Goals as goal

pub returns : goal.returns
returns c = read_again
