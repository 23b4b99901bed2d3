use Rattle.std.proofs.Common.{ℕ, List, refl, subst, ◌≡◌, ◌∙◌}
use Rattle.std.specs.Prelude.{IfOk}
use Rattle.gs_links.specs.Languages.{narrowed}
use Rattle.gs_links.specs.declared.link.Want.TheVariants.{Relation as RelationOf}
use Rattle.gs_http.specs.LentValues.{asked_by}
use Rattle.gs_http.specs.LanguageRanges.{accepted_ranges}
use Rattle.gs_http.proofs.ChoiceLemmas.{same_want}
use Rattle.gs_http.proofs.routing.Lookup.choose_relation.Goals as goal

pub narrow-requires-clause-chosen : goal.narrow-requires-clause-chosen
narrow-requires-clause-chosen c = (RelationOf c.args.name, rw c.store-store.ensures at c.choose-chosen.ensures.numbers)

pub returns : goal.returns
returns c =
    let links = c.args.self.now.resolver.now.links in
    let ranges = accepted_ranges (asked_by c.args.self.now.request.now).fields in
    let all = rw c.store-store.ensures at c.choose-chosen.ensures.numbers in
    subst (λ (chosen : List ℕ). IfOk c.narrow.result (λ numbers. numbers.now ≡ narrowed links chosen ranges))
    (all ∙ same_want links c.args.self.now.identity.now c.args.name.now c.args.name refl) c.narrow.ensures
