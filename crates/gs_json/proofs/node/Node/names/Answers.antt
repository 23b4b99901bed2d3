use Rattle.std.proofs.Common.{◌∙◌, ap, inr, map}
use Rattle.gs_json.proofs.LookUpLemmas.{names_found}
use Rattle.gs_json.proofs.node.Node.names.Goals as goal

pub returns-clause-answer : goal.returns-clause-answer
returns-clause-answer c =
    rw (← c.self.view_is) (inr (names_found _ _ _ _ c.in-Some.ensures (ap (map (λ name. name.now)) c.from_vec.ensures ∙ c.in_ok-keys_of.ensures.names)))
