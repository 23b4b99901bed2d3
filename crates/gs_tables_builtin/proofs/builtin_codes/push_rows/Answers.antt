use Rattle.gs_tables_builtin.specs.BuiltInAisSupport.{row_of}
use Rattle.gs_tables_builtin.proofs.BuiltInLemmas.{row_more, rows_whole}
use Rattle.gs_tables_builtin.proofs.builtin_codes.push_rows.Goals as goal

pub loop-line-preserved : goal.loop-line-preserved
loop-line-preserved c =
    row_more row_of c.args.lines.now c.loop-line.line-index _ _ _ _ c.loop-line-test.true c.loop-line.invariant
    (rw c.in_ok-row_of.ensures at c.in_ok-push.ensures.items)

pub returns : goal.returns
returns c = rows_whole row_of c.args.lines.now c.loop-line.line-index _ _ c.loop-line-test.false c.loop-line.invariant
