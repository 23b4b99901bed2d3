use Rattle.gs_merge.proofs.MergedStores.{either_first}
use Rattle.gs_merge.proofs.laws.merging_is_associative.Goals as goal

pub returns : goal.returns
returns c voc a b d ab bc keeps store_a store_b store_d first second = either_first c.args.table.now c.rows.ensures.kept voc keeps a b d ab bc store_a store_b store_d first second
