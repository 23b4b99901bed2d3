use Rattle.gs_json.proofs.Pointers.{escaped_more}
use Rattle.gs_json.proofs.place.push_member.Goals as goal

pub loop-c-preserved : goal.loop-c-preserved
loop-c-preserved c =
    escaped_more _ c.args.name.now c.loop-c.c-index _ _ _ c.loop-c-test.true c.loop-c.invariant c.in_ok-push_escaped.ensures
