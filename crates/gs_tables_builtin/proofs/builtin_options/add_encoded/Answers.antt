use Rattle.std.proofs.Common.{◌-◌, refl}
use Rattle.gs_tables_builtin.specs.declared.encoding.Partition.{Partition}
use Rattle.gs_tables_builtin.specs.BuiltIn.{partition, partitions, encoded_row}
use Rattle.gs_tables_builtin.specs.BuiltInSupport.{rest_fits}
use Rattle.gs_tables_builtin.proofs.BuiltInLemmas.{passes_at, row_more}
use Rattle.gs_tables_builtin.proofs.builtin_options.add_encoded.Goals as goal

pub loop-partition-preserved : goal.loop-partition-preserved
loop-partition-preserved c =
    (refl, row_more (encoded_row c.args.bits c.args.encoding.now) partitions c.loop-partition.partition-index (partition 0 0 0) _ _ _ c.loop-partition-test.true c.loop-partition.invariant.1 c.in_ok-push_encoded.ensures)

pub push_encoded-requires : goal.push_encoded-requires
push_encoded-requires c =
    passes_at (λ (p : Partition). rest_fits c.args.encoding.now.rest (c.args.encoding.now.width - p.bits)) partitions c.loop-partition.partition-index (partition 0 0 0) c.loop-partition-test.true c.requires
