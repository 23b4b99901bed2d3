use Rattle.std.proofs.Common.{◌≡◌, ◌≤◌, false}
use Rattle.tdl_serve.proofs.SessionLemmas.{SoFar}
use Rattle.tdl_serve.specs.Turns.{after_turns}
use Rattle.tdl_serve.proofs.sessions.serve_turns.Given as goal

-- the connections that were served, and the listener is open
abbrev pub invariant-loop-finished : goal.invariant-loop-finished
invariant-loop-finished g l = record {
  so_far : SoFar l.resolver (g.D.Conn.state l.fn.door) (g.D.Conn.state l.door) l.finished l.errors;
  within : l.finished ≤ l.count;
  rest : g.D.Conn.state l.door ≡ after_turns false (g.D.Conn.state l.door) (g.D.Conn.state l.fn.door);
}
