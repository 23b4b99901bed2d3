use Rattle.std.proofs.Common.{◌<◌, length, ap, arith}
use Rattle.gs_http.specs.LentValues.{wished}
use Rattle.gs_http.proofs.ChoiceLemmas.{linkset_found, numbers_narrowed}
use Rattle.gs_http.proofs.routing.Lookup.answer.Goals as goal

pub by_count-requires-clause-chosen : goal.by_count-requires-clause-chosen
by_count-requires-clause-chosen c = numbers_narrowed c.args.self.now.resolver.now.links _ c.args.self.now.identity.now _ c.in_ok-chosen.chosen.now c.in_ok-chosen.ensures

pub returns-in_ok-render-in-Linkset : goal.returns-in_ok-render-in-Linkset
returns-in_ok-render-in-Linkset c =
    let site = c.args.self.now.resolver.now in
    let some : 0 < length c.in_ok-chosen.chosen.now = grind (arith, c.is_empty.ensures, c.if-is_empty.false) in
    linkset_found site.settings.templates site.links _ c.args.self.now.identity.now _ _ c.in_ok-chosen.chosen.now c.in_ok-render-in-Linkset.field-0 (ap wished c.in-Linkset.is) c.in_ok-chosen.ensures some c.in_ok-render-in-Linkset.ensures
