use Rattle.std.proofs.Common.{◌∙◌}
use Rattle.gs_linkset.specs.WrittenTrees.{tree_of, written}
use Rattle.gs_linkset.proofs.TokenLemmas.{printed}
use Rattle.gs_linkset.proofs.writer.write.Goals as goal

pub returns : goal.returns
unfolding written
returns c =
    let added = rw c.contexts.ensures.value at c.in_ok-put_document.ensures in
    c.from_vec.ensures ∙ printed _ _ (tree_of c.args.doc.now) c.into_inner.result.items
    (c.new-out.ensures.before ∙ c.in_ok-with_capacity.ensures.items) c.new-out.ensures.tokens added c.into_inner.ensures.items
