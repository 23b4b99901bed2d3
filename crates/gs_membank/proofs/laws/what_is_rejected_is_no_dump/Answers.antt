use Rattle.gs_membank.proofs.DumpLaws.{no_dump}
use Rattle.gs_membank.proofs.laws.what_is_rejected_is_no_dump.Goals as goal

pub returns : goal.returns
returns c = no_dump
