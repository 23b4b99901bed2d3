use Rattle.std.proofs.Common.{◌-◌, ◌==◌, arith}
use Rattle.gs_http.proofs.Connections.{at_start, before_last, goes_on, is_over, not_last}
use Rattle.gs_http.proofs.connection.serve_with.Goals as goal

pub loop-turn-init : goal.loop-turn-init
loop-turn-init g c = record {
  so_far = rw c.new-bytes.ensures (at_start c.args.resolver.now.table c.args.resolver.now.links c.args.resolver.now.settings 1000 _);
  more = omega arith;
  room = c.requires.room;
}

pub loop-turn-preserved : goal.loop-turn-preserved
loop-turn-preserved g c =
    let turned = rw c.is_last.ensures at c.in-None.ensures in
    let stays = not_last c.args.resolver.now.table c.args.resolver.now.links c.args.resolver.now.settings (1000 - c.loop-turn.turn == 1) _ _ _ _ turned in
    record {
      so_far = goes_on c.args.resolver.now.table c.args.resolver.now.links c.args.resolver.now.settings 1000 c.loop-turn.turn _ _ _ _ _ c.loop-turn.invariant.more c.loop-turn.invariant.so_far
          turned;
      more = before_last c.loop-turn.turn c.loop-turn.invariant.more stays;
      room = let same = c.answer_next.auto.room in omega (arith, c.loop-turn.invariant.room);
    }

pub returns-in-Some-clause-served : goal.returns-in-Some-clause-served
returns-in-Some-clause-served g c =
    (is_over c.args.resolver.now.table c.args.resolver.now.links c.args.resolver.now.settings 1000 c.loop-turn.turn _ _ _ _ _ c.in-Some.served c.loop-turn.invariant.more c.loop-turn.invariant.so_far
    (rw c.is_last.ensures at c.in-Some.ensures)).0

pub returns-in-Some-clause-rest : goal.returns-in-Some-clause-rest
returns-in-Some-clause-rest g c =
    (is_over c.args.resolver.now.table c.args.resolver.now.links c.args.resolver.now.settings 1000 c.loop-turn.turn _ _ _ _ _ c.in-Some.served c.loop-turn.invariant.more c.loop-turn.invariant.so_far
    (rw c.is_last.ensures at c.in-Some.ensures)).1
