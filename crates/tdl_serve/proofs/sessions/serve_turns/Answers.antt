use Rattle.std.proofs.Common.{arith, refl}
use Rattle.tdl_serve.proofs.SessionLemmas.{at_start, goes_on, memory_ran_out, none_accepted}
use Rattle.tdl_serve.proofs.TurnLemmas.{accepted, stays_closed, turned}
use Rattle.tdl_serve.proofs.sessions.serve_turns.Goals as goal

pub loop-finished-init : goal.loop-finished-init
loop-finished-init g c = record {
  so_far = at_start c.args.resolver.now _;
  within = omega arith;
  rest = stays_closed (g.D.Conn.state c.args.door.now) c.requires.none_open;
}

pub returns-in-Failed-clause-did : goal.returns-in-Failed-clause-did
returns-in-Failed-clause-did g c =
    (rw c.in-Failed.ensures.after (none_accepted c.args.resolver.now _ _ _ _ c.args.count c.loop-finished.invariant.so_far c.loop-finished.invariant.within), refl)

pub returns-in-Err-clause-did : goal.returns-in-Err-clause-did
returns-in-Err-clause-did g c =
    let served = rw c.in-Accepted.ensures.after at c.in-Err.ensures in (
      memory_ran_out c.args.resolver.now _ _ _ _ _ c.args.count _ c.loop-finished.invariant.so_far (accepted c.args.resolver.now _ _ _ c.in-Accepted.ensures.waited served)
          (let more = c.loop-finished-test.true in omega arith),
      refl,
    )

pub returns-in-Err-clause-rest : goal.returns-in-Err-clause-rest
returns-in-Err-clause-rest g c =
    let served = rw c.in-Accepted.ensures.after at c.in-Err.ensures in
    turned c.args.resolver.now _ (g.D.Conn.state c.args.door.now) (g.D.Conn.state c.loop-finished.door) (g.D.Conn.state c.serve_open.new.door) c.loop-finished.invariant.rest served

pub loop-finished-preserved : goal.loop-finished-preserved
loop-finished-preserved g c =
    let served = rw c.in-Accepted.ensures.after at c.in-Ok.ensures in
    let visit = accepted c.args.resolver.now _ _ _ c.in-Accepted.ensures.waited served in
    record {
      so_far = rw c.with_error-errors.ensures (goes_on c.args.resolver.now _ _ _ _ _ c.in-Ok.errored c.loop-finished.invariant.so_far visit);
      within = let more = c.loop-finished-test.true in omega arith;
      rest = turned c.args.resolver.now _ (g.D.Conn.state c.args.door.now) (g.D.Conn.state c.loop-finished.door) (g.D.Conn.state c.serve_open.new.door) c.loop-finished.invariant.rest served;
    }
