use Rattle.gs_json.specs.Shapes.{is_array}
use Rattle.gs_json.proofs.FirstFailures.{all_pass, item_fails, item_passes}
use Rattle.gs_json.proofs.plan.first_no_array.Goals as goal

pub loop-i-preserved : goal.loop-i-preserved
loop-i-preserved c =
    item_passes is_array _ _ c.loop-i.invariant c.loop-i-test.true _ c.index-items-i.is c.if-not-is_array.ensures

pub returns-then-not-is_array : goal.returns-then-not-is_array
returns-then-not-is_array c =
    item_fails is_array _ _ c.loop-i.invariant c.loop-i-test.true _ c.index-items-i.is c.if-not-is_array.ensures

pub returns : goal.returns
returns c = all_pass is_array _ _ c.loop-i.invariant c.loop-i-test.false
