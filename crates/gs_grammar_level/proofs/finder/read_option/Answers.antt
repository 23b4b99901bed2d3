use Rattle.gs_grammar_level.specs.Cuttings.{AreWidthsOf, IsCuttingOf}
use Rattle.gs_grammar_level.specs.OptionMachines.{IsMachineOf}
use Rattle.gs_grammar_level.proofs.FitLemmas.{fits_at}
use Rattle.gs_grammar_level.proofs.finder.read_option.Goals as goal

pub read_by_widths-requires-clause-fixed : goal.read_by_widths-requires-clause-fixed
read_by_widths-requires-clause-fixed c =
    let fits = fits_at IsCuttingOf _ _ _ _ _ c.cuttings.ensures c.requires c.index-cuttings-option.is (rw c.options.ensures.options at c.index-options-option.is) in
    let widths : AreWidthsOf c.in-Widths.places c.index-options-option.result = rw c.in-Widths.is at fits in
    rw c.items-items.ensures.items widths.fixed

pub read_by_widths-requires-clause-places : goal.read_by_widths-requires-clause-places
read_by_widths-requires-clause-places c =
    let fits = fits_at IsCuttingOf _ _ _ _ _ c.cuttings.ensures c.requires c.index-cuttings-option.is (rw c.options.ensures.options at c.index-options-option.is) in
    let widths : AreWidthsOf c.in-Widths.places c.index-options-option.result = rw c.in-Widths.is at fits in
    rw (c.items-items.ensures.items, c.items.ensures) widths.places_are

pub read_by_machine-requires-clause-rules : goal.read_by_machine-requires-clause-rules
read_by_machine-requires-clause-rules c = (fits_at IsMachineOf _ _ _ _ _ c.machines.ensures c.requires c.index-machines-option.is (rw c.options.ensures.options at c.index-options-option.is)).rules

pub read_by_machine-requires-clause-reads : goal.read_by_machine-requires-clause-reads
read_by_machine-requires-clause-reads c =
    let fits = fits_at IsMachineOf _ _ _ _ _ c.machines.ensures c.requires c.index-machines-option.is (rw c.options.ensures.options at c.index-options-option.is) in
    rw c.items-items.ensures.items fits.reads
