use Rattle.std.proofs.Common.{arith}
use Rattle.gs_grammar_level.specs.OptionMachines.{IsMachineOf}
use Rattle.gs_grammar_level.proofs.FitLemmas.{none_yet, one_more, fit_all}
use Rattle.gs_grammar_level.proofs.level.machines_of.Goals as goal

pub loop-option-init : goal.loop-option-init
loop-option-init c = none_yet IsMachineOf _ _ c.in_ok-machines.ensures.items

pub loop-option-preserved : goal.loop-option-preserved
loop-option-preserved c =
    let made = c.in_ok-compile.ensures in
    one_more IsMachineOf c.loop-option.machines.items _ c.args.options.now c.loop-option.option-index c.in_ok-compile.field-0 c.option-item.result c.loop-option.invariant c.loop-option-test.true c.option-item.is (record { rules = made.rules; reads = made.reads; few = made.few }) c.in_ok-push.ensures.items

pub returns : goal.returns
returns c = fit_all IsMachineOf _ _ _ _ c.loop-option.invariant (grind arith) c.from_vec.ensures
