use Rattle.std.proofs.Common.{◌∙◌}
use Rattle.gs_merge.proofs.ShapeLemmas.{made_shaped, merged_made}
use Rattle.gs_merge.proofs.merger.merged_contexts.Goals as goal

pub returns-clause-answer : goal.returns-clause-answer
returns-clause-answer c = merged_made c.args.a.now c.args.b.now c.as_slice.result.now c.contexts_of.result
    (c.as_slice.ensures.value ∙ c.in_ok-links.ensures.links) c.contexts_of.ensures

pub returns-clause-shape : goal.returns-clause-shape
returns-clause-shape c = made_shaped c.args.a.now c.args.b.now c.as_slice.result.now c.contexts_of.result
    (c.as_slice.ensures.value ∙ c.in_ok-links.ensures.links) (rw c.as_slice.ensures.value c.in_ok-links.ensures.shape) c.contexts_of.ensures
