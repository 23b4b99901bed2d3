use Rattle.std.proofs.Common.{◌∙◌}
use Rattle.gs_prefix.proofs.FindLemmas.{looked_up}
use Rattle.gs_prefix.proofs.prefix_list.Index.length_of.Goals as goal

pub returns : goal.returns
returns c = rw (← c.self.view_is) (c.copied.ensures ∙ c.get.ensures.value ∙ looked_up (λ k. k.items) c.args.prefix.now c.self.inside.lengths.entries)
