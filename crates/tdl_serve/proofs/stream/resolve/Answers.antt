use Rattle.std.proofs.Common.{rules}
use Rattle.gs_http.specs.Sites.{SiteData}
use Rattle.tdl_serve.proofs.StreamLemmas.{resolved_to}
use Rattle.tdl_serve.proofs.stream.resolve.Goals as goal

pub returns-clause-written : goal.returns-clause-written
returns-clause-written g c =
    let site : SiteData = record { table = c.site.inside.table.now; links = c.site.inside.store.now; settings = c.site.inside.settings.now } in
    rw (c.status_of.ensures, ← c.site.view_is)
    (resolved_to site c.serve_one-served.result _ _ c.serve_one-served.ensures.served c.serve_one-served.ensures.rest _ (g.K.Sink.state c.args.output.now) _ (search rules) (search rules) (search rules))
