use Rattle.gs_class.proofs.ReadBack.{read_is_written}
use Rattle.gs_class.proofs.laws.what_is_read_is_written.Goals as goal

pub returns : goal.returns
returns c ais set prefixes text identity of read = read_is_written ais set prefixes text identity of read
