use Rattle.std.proofs.Common.{false, length, ◌-◌, ◌≡◌, ◌≤◌, take}
use Rattle.gs_http.specs.ConnectedSupport.{sent_to}
use Rattle.gs_http.proofs.connection.send.Given as goal

-- the bytes so far were written
abbrev pub invariant-loop-done : goal.invariant-loop-done
invariant-loop-done g l = record {
  within : l.done ≤ length l.bytes;
  after : g.C.Conn.state l.conn ≡ sent_to (g.C.Conn.state l.fn.conn) (take l.done l.bytes) false;
}

abbrev pub decreases-loop-done : goal.decreases-loop-done
decreases-loop-done g l = length l.bytes - l.done
