use Rattle.gs_grammar.proofs.WordLaws.{all_items}
use Rattle.gs_grammar.proofs.opt.Opt.items.Goals as goal

pub returns-clause-each : goal.returns-clause-each
returns-clause-each c = rw c.items.ensures (all_items _ _ c.self.invariant.bounds.none_bad)
