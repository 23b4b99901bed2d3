use Rattle.std.proofs.Common.{[], ◌∷◌, ◌∙◌}
use Rattle.gs_linkset.specs.LentLinks.{context_lent}
use Rattle.gs_linkset.specs.WrittenTrees.{tree_of, written}
use Rattle.gs_linkset.proofs.TokenLemmas.{printed}
use Rattle.gs_linkset.proofs.lent.write_context.Goals as goal

pub returns : goal.returns
unfolding written
returns c =
    c.from_vec.ensures ∙ printed _ _ (tree_of (context_lent c.args.context.now ∷ [])) c.into_inner.result.items
    (c.new-out.ensures.before ∙ c.in_ok-with_capacity.ensures.items) c.new-out.ensures.tokens c.in_ok-put_document.ensures c.into_inner.ensures.items
