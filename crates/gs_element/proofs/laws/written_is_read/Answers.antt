use Rattle.gs_element.proofs.WritingLemmas.{bracketed_read, raw_read}
use Rattle.gs_element.proofs.laws.written_is_read.Goals as goal

pub returns-clause-raw : goal.returns-clause-raw
returns-clause-raw c = raw_read c.args.table.now c.rows.ensures.kept

pub returns-clause-bracketed : goal.returns-clause-bracketed
returns-clause-bracketed c = bracketed_read c.args.table.now c.rows.ensures.kept
