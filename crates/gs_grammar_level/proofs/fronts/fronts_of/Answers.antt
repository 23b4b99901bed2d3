use Rattle.std.proofs.Common.{arith}
use Rattle.gs_grammar_level.specs.Fronts.{IsFrontOf}
use Rattle.gs_grammar_level.proofs.FitLemmas.{none_yet, one_more, fit_all}
use Rattle.gs_grammar_level.proofs.fronts.fronts_of.Goals as goal

pub loop-option-init : goal.loop-option-init
loop-option-init c = none_yet IsFrontOf _ _ c.in_ok-fronts.ensures.items

pub loop-option-preserved : goal.loop-option-preserved
loop-option-preserved c =
    one_more IsFrontOf c.loop-option.fronts.items _ c.args.options.now c.loop-option.option-index c.in_ok-front_of.field-0 c.option-item.result c.loop-option.invariant c.loop-option-test.true c.option-item.is c.in_ok-front_of.ensures c.in_ok-push.ensures.items

pub returns : goal.returns
returns c = fit_all IsFrontOf _ _ _ _ c.loop-option.invariant (grind arith) c.from_vec.ensures
