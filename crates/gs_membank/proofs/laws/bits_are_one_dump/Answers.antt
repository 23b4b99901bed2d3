use Rattle.gs_membank.proofs.DumpLaws.{one_bank}
use Rattle.gs_membank.proofs.laws.bits_are_one_dump.Goals as goal

pub returns : goal.returns
returns c = one_bank
