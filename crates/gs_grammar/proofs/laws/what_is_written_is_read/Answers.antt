use Rattle.gs_grammar.proofs.WritingLemmas.{written_read}
use Rattle.gs_grammar.proofs.laws.what_is_written_is_read.Goals as goal

pub returns : goal.returns
returns c = written_read
