use Rattle.std.proofs.Common.{◌∙◌}
use Rattle.gs_linkset.specs.WrittenTrees.{target_text, target_tree}
use Rattle.gs_linkset.proofs.TokenLemmas.{printed}
use Rattle.gs_linkset.proofs.link_types.Target.text.Goals as goal

pub returns : goal.returns
unfolding target_text
returns c =
    c.from_vec.ensures ∙ printed _ _ (target_tree c.args.self.now) c.into_inner.result.items
    (c.new-out.ensures.before ∙ c.in_ok-with_capacity.ensures.items) c.new-out.ensures.tokens c.in_ok-append.ensures c.into_inner.ensures.items
