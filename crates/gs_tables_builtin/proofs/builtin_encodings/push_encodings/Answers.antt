use Rattle.gs_tables_builtin.specs.BuiltInSupport.{encoding_known}
use Rattle.gs_tables_builtin.proofs.BuiltInLemmas.{row_more, rows_whole}
use Rattle.gs_tables_builtin.proofs.builtin_encodings.push_encodings.Goals as goal

pub loop-line-preserved : goal.loop-line-preserved
loop-line-preserved c =
    row_more encoding_known c.args.lines.now c.loop-line.line-index _ _ _ _ c.loop-line-test.true c.loop-line.invariant
    (rw c.in_ok-encoding_of.ensures at c.in_ok-push.ensures.items)

pub returns : goal.returns
returns c = rows_whole encoding_known c.args.lines.now c.loop-line.line-index _ _ c.loop-line-test.false c.loop-line.invariant
