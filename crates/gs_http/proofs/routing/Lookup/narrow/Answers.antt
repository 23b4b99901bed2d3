use Rattle.std.proofs.Common.{sym}
use Rattle.gs_http.proofs.ChoiceLemmas.{narrowed_few}
use Rattle.gs_http.proofs.routing.Lookup.narrow.Goals as goal

pub returns-then-chosen-le1 : goal.returns-then-chosen-le1
returns-then-chosen-le1 c = sym (narrowed_few c.args.self.now.resolver.now.links c.args.chosen.now _ c.if-chosen-le1.true)

pub narrow-count-requires-clause-chosen : goal.narrow-count-requires-clause-chosen
narrow-count-requires-clause-chosen c = (c.args.self.now.identity.now, c.requires.chosen.0, rw c.store.ensures c.requires.chosen.1)
