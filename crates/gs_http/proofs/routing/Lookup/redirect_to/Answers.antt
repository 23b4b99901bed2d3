use Rattle.std.proofs.Common.{List, ℕ, ap, ◌∙◌}
use Rattle.gs_http.specs.References.{reference_for}
use Rattle.gs_http.specs.Answers.{redirect}
use Rattle.gs_http.proofs.routing.Lookup.redirect_to.Goals as goal

pub returns : goal.returns
returns c =
    ap redirect (rw c.settings.ensures at c.in_ok-reference_for.ensures.reference ∙ ap (λ (href : List ℕ). reference_for c.args.self.now.resolver.now.settings.templates c.args.self.now.identity.now href) c.as_bytes-href.ensures)
