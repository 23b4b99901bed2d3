use Rattle.std.proofs.Common.{[]}
use Rattle.gs_tables_builtin.specs.BuiltInAisSupport.{known}
use Rattle.gs_tables_builtin.proofs.BuiltInLemmas.{row_more, rows_whole}
use Rattle.gs_tables_builtin.proofs.builtin_codes.list_of.Goals as goal

pub loop-code-preserved : goal.loop-code-preserved
loop-code-preserved c =
    row_more known c.args.codes.now c.loop-code.code-index _ [] _ _ c.loop-code-test.true c.loop-code.invariant
    (rw c.in_ok-from_bytes.ensures at c.in_ok-push.ensures.items)

pub returns : goal.returns
returns c =
    rw c.from_vec.ensures (rows_whole known c.args.codes.now c.loop-code.code-index [] _ c.loop-code-test.false c.loop-code.invariant)
