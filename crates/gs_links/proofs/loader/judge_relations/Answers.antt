use Rattle.std.proofs.Common.{sym, ◌∙◌}
use Rattle.gs_chars.proofs.TruthsAndLists.{read_at}
use Rattle.gs_links.specs.Loads.{relation_errors}
use Rattle.gs_links.proofs.LoadLemmas.{bad_relation, good_relation, none_more, rejected_at}
use Rattle.gs_links.proofs.loader.judge_relations.Goals as goal

pub returns-in-Some : goal.returns-in-Some
returns-in-Some c =
    let at = read_at c.args.relations.now c.loop-r.r c.index-relations-r.result c.loop-r-test.true c.index-relations-r.is in
    rejected_at (λ r relation. relation_errors c.args.i r relation) c.args.relations.now c.loop-r.r c.index-relations-r.result _ tt at c.loop-r.invariant
    (bad_relation c.args.i c.loop-r.r c.in-Some.t c.index-relations-r.result (sym c.in-Some.is ∙ (rw c.items.ensures at c.bad_target.ensures)))

pub loop-r-preserved : goal.loop-r-preserved
loop-r-preserved c =
    let at = read_at c.args.relations.now c.loop-r.r c.index-relations-r.result c.loop-r-test.true c.index-relations-r.is in
    none_more (λ r relation. relation_errors c.args.i r relation) c.args.relations.now c.loop-r.r c.index-relations-r.result at c.loop-r.invariant
    (good_relation c.args.i c.loop-r.r c.index-relations-r.result (sym c.in_default.is ∙ (rw c.items.ensures at c.bad_target.ensures)))
