use Rattle.gs_merge.proofs.MergedStores.{made_loads}
use Rattle.gs_merge.proofs.ShapeLemmas.{few_targets, too_many_targets}
use Rattle.gs_merge.proofs.merger.merge.Goals as goal

pub returns-then-is_over-clause-answer : goal.returns-then-is_over-clause-answer
returns-then-is_over-clause-answer c = too_many_targets c.args.a.now c.args.b.now c.in_ok-contexts.contexts c.in_ok-contexts.ensures.answer
    (rw c.items.ensures at c.if-is_over.ensures)

pub returns-clause-answer : goal.returns-clause-answer
returns-clause-answer c = few_targets c.args.a.now c.args.b.now c.in_ok-contexts.contexts c.of_contexts.result c.in_ok-contexts.ensures.answer c.of_contexts.ensures (rw c.items.ensures at c.if-is_over.ensures)

pub returns-clause-loads : goal.returns-clause-loads
returns-clause-loads c = made_loads c.args.a.now c.args.b.now c.in_ok-contexts.contexts c.of_contexts.result c.in_ok-contexts.ensures.answer c.of_contexts.ensures (rw c.items.ensures at c.if-is_over.ensures)
