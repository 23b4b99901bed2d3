use Rattle.std.proofs.Common.{◌≡◌, ◌*◌, ◌≤◌, ◌^◌}
use Rattle.tdl_gen.specs.CountingSupport.{CountsFirst}
use Rattle.tdl_gen.proofs.counts.count_lines.Given as goal

-- the lines before are counted, and no line has more bytes than its length says
abbrev pub invariant-loop : goal.invariant-loop
invariant-loop l =
    (l.generator ≡ l.counter) × CountsFirst l.by.set.now l.counter l.counts.ok l.counts.bytes
    × (l.counts.ok ≤ l.counter) × (l.counts.bytes ≤ l.counter * 2 ^ 65)
