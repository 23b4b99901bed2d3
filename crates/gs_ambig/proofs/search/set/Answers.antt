use Rattle.std.proofs.Common.{◌∙◌}
use Rattle.std.proofs.lemmas.Grind.{get_or_default_zero}
use Rattle.gs_ambig.proofs.SetBits.{set_here, set_others}
use Rattle.gs_ambig.proofs.search.set.Goals as goal

pub returns-clause-set : goal.returns-clause-set
returns-clause-set c = set_here _ _ _ c.requires

pub returns-clause-others : goal.returns-clause-others
returns-clause-others c = set_others _ _ _ c.requires (c.index_mut.ensures.value ∙ get_or_default_zero _ _ _ c.requires)
