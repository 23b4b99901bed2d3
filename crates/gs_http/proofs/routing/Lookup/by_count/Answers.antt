use Rattle.std.proofs.Common.{length, ap, sym, subst, ◌≡◌, ◌∙◌}
use Rattle.std.specs.Prelude.{IfOk}
use Rattle.std.proofs.lemmas.Bool.{eqb-false, eqb-true}
use Rattle.gs_links.proofs.DocumentLemmas.{document_within}
use Rattle.gs_http.specs.declared.documents.Rendered.{Rendered}
use Rattle.gs_http.specs.Answers.{Answer, choices}
use Rattle.gs_http.specs.LentValues.{said}
use Rattle.gs_http.proofs.ChoiceLemmas.{more_links, one_link}
use Rattle.gs_http.proofs.routing.Lookup.by_count.Goals as goal

pub link-link-requires : goal.link-link-requires
link-link-requires c =
    rw c.store.ensures (document_within c.args.self.now.resolver.now.links c.args.self.now.identity.now c.args.chosen.now c.requires.chosen 0 0 c.requires.some)

pub returns-then-has_one_link : goal.returns-then-has_one_link
returns-then-has_one_link c =
    let site = c.args.self.now.resolver.now in
    let one = eqb-true (length c.args.chosen.now) 1 (sym c.has_one_link.ensures ∙ c.if-has_one_link.true) in
    subst (λ (answer : Answer). IfOk c.redirect_to.result (λ made. said made ≡ answer))
    (one_link site.settings.templates c.args.self.now.identity.now site.links c.args.chosen.now c.link-link.result.now one (rw c.store.ensures at c.link-link.ensures.link))
    c.redirect_to.ensures

pub returns : goal.returns
returns c =
    let site = c.args.self.now.resolver.now in
    let within = document_within site.links c.args.self.now.identity.now c.args.chosen.now c.requires.chosen in
    let more = eqb-false (length c.args.chosen.now) 1 (sym c.has_one_link.ensures ∙ c.if-has_one_link.false) in
    ap choices (ap (λ (sent : Rendered). sent.text) c.in_ok-sent.ensures)
    ∙ sym (more_links site.settings.templates c.args.self.now.identity.now site.links c.args.chosen.now within c.requires.some more)
