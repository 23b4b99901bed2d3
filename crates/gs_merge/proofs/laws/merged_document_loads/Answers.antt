use Rattle.gs_merge.proofs.MergedStores.{merged_loads}
use Rattle.gs_merge.proofs.laws.merged_document_loads.Goals as goal

pub returns : goal.returns
returns c voc a b keeps store_a store_b few = merged_loads c.args.table.now c.rows.ensures.kept voc keeps a b store_a store_b few
