use Rattle.gs_merge.specs.MergedDocuments.{merge_answer}
use Rattle.tdl_loads.proofs.LinkLoads.{merging_not, with_merged}
use Rattle.tdl_loads.proofs.linked.merge_all.Goals as goal
use Rattle.gs_links.specs.declared.error.StoreFault.TheVariants.{TooMany}
use Rattle.tdl_messages.specs.declared.rejection.FileFault.TheVariants.{Store}
use Rattle.gs_translate.specs.Steps.{reworded}

pub returns-in-Ok : goal.returns-in-Ok
returns-in-Ok c =
    let verdict = reworded (λ _. Store TooMany) (merge_answer c.args.links.now c.in-Some.second) in
    rw c.in-Some.is (with_merged c.args.ais.now c.args.voc.now verdict c.in-Ok.merged c.args.third c.merge_third.result c.in-Ok.ensures c.merge_third.ensures)

pub returns-in-Err : goal.returns-in-Err
returns-in-Err c = merging_not c.args.ais.now c.args.voc.now c.args.links.now c.args.second c.args.third c.in-Some.second c.in-Err.unloaded c.in-Some.is c.in-Err.ensures
