use Rattle.std.proofs.Common.{◌<◌, ◌≤◌, false, length}
use Rattle.gs_http.specs.Sites.{room_for}
use Rattle.gs_http.proofs.Connections.{SoFar}
use Rattle.gs_http.proofs.connection.serve_with.Given as goal

-- that many heads were answered, and more may come
abbrev pub invariant-loop-turn : goal.invariant-loop-turn
invariant-loop-turn g l = record {
  so_far : SoFar l.resolver.table l.resolver.links l.resolver.settings false 1000 l.turn l.bytes (g.C.Conn.state l.fn.conn) (g.C.Conn.state l.conn);
  more : l.turn < 1000;
  room : room_for l.resolver.links ≤ length l.room;
}
