use Rattle.std.proofs.Common.{arith, length-append, List, ℕ}
use Rattle.gs_ai.proofs.PlaceLemmas.{more_starts}
use Rattle.gs_ai.proofs.starts.starts_of.Goals as goal

pub loop-start-preserved : goal.loop-start-preserved
loop-start-preserved c =
    let done = c.loop-start.invariant in
    let pushed = rw (c.from_vec.ensures, c.in_ok-places_at.ensures) at c.in_ok-push.ensures.items in
    rw pushed (record {
      count = omega (arith, length-append {A = List ℕ}, done.count);
      lists = more_starts c.args.rows.now c.loop-start.starts.items c.loop-start.start done.count done.lists;
    })

pub returns : goal.returns
returns c = record { lists = λ start low. c.loop-start.invariant.lists start (omega (arith, c.loop-start-test.false)) }
