use Rattle.std.proofs.Common.{◌≤◌, arith}
use Rattle.gs_links.proofs.NumberLemmas.{put_lower, put_own}
use Rattle.gs_links.proofs.ranges.Numbers.put.Goals as goal

pub returns-clause-lower : goal.returns-clause-lower
returns-clause-lower c =
    let updates = c.in_ok-insert.ensures.updates in
    let low : c.min-least.result ≤ c.at.result = omega arith in
    put_lower c.args.self.now (record { first = c.insert.new.self }) c.args.bytes.items c.min-least.result updates.1 updates.3
    (rw (c.at.ensures, c.as_slice.ensures.value) at low)

pub returns-clause-put : goal.returns-clause-put
returns-clause-put c =
    let low : c.min-least.result ≤ c.args.number = omega arith in
    rw (put_own (record { first = c.insert.new.self }) c.args.bytes.items c.min-least.result c.in_ok-insert.ensures.updates.1) low
