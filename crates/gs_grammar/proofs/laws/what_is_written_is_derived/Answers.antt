use Rattle.gs_grammar.proofs.WritingLemmas.{written_derives}
use Rattle.gs_grammar.proofs.laws.what_is_written_is_derived.Goals as goal

pub returns : goal.returns
returns c = written_derives
