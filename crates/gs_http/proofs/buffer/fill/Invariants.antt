use Rattle.std.proofs.Common.{false, length, ◌-◌, ◌≤◌}
use Rattle.gs_http.specs.ConnectedSupport.{Fetches}
use Rattle.gs_http.proofs.buffer.fill.Given as goal

-- the bytes read so far follow those held before
abbrev pub invariant-filling : goal.invariant-filling
invariant-filling g l = record {
  fetches : Fetches l.fn.bytes l.bytes false (g.C.Conn.state l.fn.conn) (g.C.Conn.state l.conn);
  few : length l.bytes ≤ 12287;
}

-- the room that is left for a head
abbrev pub decreases-filling : goal.decreases-filling
decreases-filling g l = 12288 - length l.bytes
