use Rattle.std.proofs.Common.{refl}
use Rattle.gs_tables_builtin.specs.BuiltIn.{partition, partitions, pure_row}
use Rattle.gs_tables_builtin.proofs.BuiltInLemmas.{row_more}
use Rattle.gs_tables_builtin.proofs.builtin_options.add_pure.Goals as goal

pub loop-partition-preserved : goal.loop-partition-preserved
loop-partition-preserved c =
    (refl, row_more (pure_row c.args.identity.now) partitions c.loop-partition.partition-index (partition 0 0 0) _ _ _ c.loop-partition-test.true c.loop-partition.invariant.1 c.in_ok-push_pure.ensures)
