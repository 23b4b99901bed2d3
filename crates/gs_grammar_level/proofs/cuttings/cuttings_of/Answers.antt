use Rattle.std.proofs.Common.{arith}
use Rattle.gs_grammar_level.specs.Cuttings.{IsCuttingOf}
use Rattle.gs_grammar_level.proofs.FitLemmas.{none_yet, one_more, fit_all}
use Rattle.gs_grammar_level.proofs.cuttings.cuttings_of.Goals as goal

pub loop-option-init : goal.loop-option-init
loop-option-init c = none_yet IsCuttingOf _ _ c.in_ok-cuttings.ensures.items

pub loop-option-preserved : goal.loop-option-preserved
loop-option-preserved c =
    one_more IsCuttingOf c.loop-option.cuttings.items _ c.args.options.now c.loop-option.option-index c.in_ok-cutting_of.field-0 c.option-item.result c.loop-option.invariant c.loop-option-test.true c.option-item.is c.in_ok-cutting_of.ensures c.in_ok-push.ensures.items

pub returns : goal.returns
returns c = fit_all IsCuttingOf _ _ _ _ c.loop-option.invariant (grind arith) c.from_vec.ensures
