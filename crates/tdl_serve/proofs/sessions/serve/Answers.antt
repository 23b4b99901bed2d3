use Rattle.std.proofs.Common.{[], refl, sym, inr, subst}
use Rattle.gs_port.specs.Outputs.{written_nothing}
use Rattle.gs_port.specs.States.{ConnState}
use Rattle.tdl_lines.specs.declared.status.Status.TheVariants.{ReadFault, Memory}
use Rattle.tdl_serve.proofs.RunLemmas.{nothing_served, ran_since, run_over}
use Rattle.tdl_serve.proofs.VisitLemmas.{visited_none}
use Rattle.tdl_serve.specs.Doors.{ServeRan}
use Rattle.tdl_serve.proofs.sessions.serve.Goals as goal

pub returns-in-Failed-clause-ran : goal.returns-in-Failed-clause-ran
returns-in-Failed-clause-ran g c =
    let before = g.D.Conn.state c.args.door.now in (
      [],
      written_nothing (g.K.Sink.state c.args.output.now),
      subst (λ (door : ConnState). ServeRan c.args.site.now c.args.count before door [] ReadFault) (sym c.in-Failed.ensures.rest)
          (nothing_served c.args.site.now c.args.count before _ ReadFault (visited_none c.args.site.now before _ refl refl refl refl) (refl, refl)),
    )

pub returns-in-Memory-clause-ran : goal.returns-in-Memory-clause-ran
returns-in-Memory-clause-ran g c =
    let before = g.D.Conn.state c.args.door.now in (
      [],
      written_nothing (g.K.Sink.state c.args.output.now),
      subst (λ (door : ConnState). ServeRan c.args.site.now c.args.count before door [] Memory) (sym c.in-Memory.ensures.rest)
          (nothing_served c.args.site.now c.args.count before _ Memory (visited_none c.args.site.now before _ refl refl refl refl) (inr refl)),
    )

pub returns-in-Ok-clause-ran : goal.returns-in-Ok-clause-ran
returns-in-Ok-clause-ran g c =
    let opened = g.D.Conn.state c.open.new.self in
    let now = g.D.Conn.state c.serve_all.new.door in
    let w = c.print_tally.ensures in (
      w.0,
      w.1,
      ran_since c.args.site.now c.args.count _ (g.D.Conn.state c.args.door.now) opened now w.0 c.print_tally.result c.in-Opened.ensures
          (run_over c.args.site.now c.args.count opened now c.in-Ok.tally w.0 c.print_tally.result c.in-Ok.ensures.did w.2),
    )

pub returns-in-Err-clause-ran : goal.returns-in-Err-clause-ran
returns-in-Err-clause-ran g c =
    let did = c.in-Err.ensures.did in
    rw did.1 ([], written_nothing (g.K.Sink.state c.args.output.now), ran_since c.args.site.now c.args.count _ (g.D.Conn.state c.args.door.now) _ _ [] c.in-Err.status c.in-Opened.ensures did.0)
