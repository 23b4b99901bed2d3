use Rattle.gs_class.proofs.WrittenLaws.{written_is_read}
use Rattle.gs_class.proofs.laws.what_is_written_is_read.Goals as goal

pub returns : goal.returns
returns c = written_is_read c.args.table.now c.rows.ensures.kept
