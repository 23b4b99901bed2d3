use Rattle.gs_merge.proofs.MergedChoices.{chooses}
use Rattle.gs_merge.proofs.laws.merged_store_chooses.Goals as goal

pub returns-clause-depth : goal.returns-clause-depth
returns-clause-depth c = λ voc a b m keeps store_a store_b loaded identity want named. (chooses c.args.table.now c.rows.ensures.kept voc keeps a b m store_a store_b loaded identity want named).0

pub returns-clause-targets : goal.returns-clause-targets
returns-clause-targets c = λ voc a b m keeps store_a store_b loaded identity want named. (chooses c.args.table.now c.rows.ensures.kept voc keeps a b m store_a store_b loaded identity want named).1
