use Rattle.std.proofs.Common.{[]}
use Rattle.gs_tables_builtin.specs.BuiltInSupport.{identity_known}
use Rattle.gs_tables_builtin.proofs.BuiltInLemmas.{row_more, rows_whole}
use Rattle.gs_tables_builtin.proofs.builtin_encodings.identities_of.Goals as goal

pub loop-name-preserved : goal.loop-name-preserved
loop-name-preserved c =
    row_more identity_known c.args.lines.now c.loop-name.name-index _ [] _ _ c.loop-name-test.true c.loop-name.invariant
    (rw c.in_ok-identity_row.ensures at c.in_ok-push.ensures.items)

pub returns : goal.returns
returns c =
    rw c.from_vec.ensures (rows_whole identity_known c.args.lines.now c.loop-name.name-index [] _ c.loop-name-test.false c.loop-name.invariant)
