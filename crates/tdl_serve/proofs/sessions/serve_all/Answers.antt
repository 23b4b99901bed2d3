use Rattle.std.proofs.Common.{refl, inr}
use Rattle.tdl_lines.specs.declared.status.Status.TheVariants.{Memory}
use Rattle.tdl_serve.proofs.RunLemmas.{nothing_served}
use Rattle.tdl_serve.proofs.VisitLemmas.{visited_none}
use Rattle.tdl_serve.proofs.sessions.serve_all.Goals as goal

pub returns-in_default-clause-did : goal.returns-in_default-clause-did
returns-in_default-clause-did g c =
    (nothing_served c.args.site.now c.args.count _ _ Memory (visited_none c.args.site.now _ _ refl refl refl refl) (inr refl), refl)
