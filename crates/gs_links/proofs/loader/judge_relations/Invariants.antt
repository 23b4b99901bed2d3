use Rattle.gs_links.specs.Loads.{relation_errors}
use Rattle.gs_links.proofs.LoadLemmas.{NoneBefore}
use Rattle.gs_links.proofs.loader.judge_relations.Given as goal

abbrev pub invariant-loop-r : goal.invariant-loop-r
invariant-loop-r l = NoneBefore (λ r relation. relation_errors l.i r relation) l.relations l.r
