use Rattle.std.proofs.Common.{arith, rules}
use Rattle.gs_tables.specs.Tables.{kind_rejections, kinds_rejections}
use Rattle.gs_tables_document.proofs.ErrorLists.{first_row, more_row, all_rows}
use Rattle.gs_tables.proofs.RejectionLists.{kind_rejected, kind_in_order}
use Rattle.gs_tables.proofs.rules.check_kinds.Goals as goal

pub returns-then-not-is_kind : goal.returns-then-not-is_kind
unfolding kinds_rejections
returns-then-not-is_kind c =
    first_row (kind_rejections c.args.ais.now c.args.kinds.now) c.args.kinds.now c.loop-i.i c.index-kinds-i.result _ c.loop-i-test.true c.index-kinds-i.is c.loop-i.invariant
    (kind_rejected c.args.ais.now c.args.kinds.now c.loop-i.i c.index-kinds-i.result (search rules))

pub loop-i-preserved : goal.loop-i-preserved
loop-i-preserved c =
    more_row (kind_rejections c.args.ais.now c.args.kinds.now) c.args.kinds.now c.loop-i.i c.index-kinds-i.result c.loop-i-test.true c.index-kinds-i.is c.loop-i.invariant
    (kind_in_order c.args.ais.now c.args.kinds.now c.loop-i.i c.index-kinds-i.result (search rules))

pub returns : goal.returns
unfolding kinds_rejections
returns c = all_rows (kind_rejections c.args.ais.now c.args.kinds.now) c.args.kinds.now c.loop-i.i (omega arith) c.loop-i.invariant
