use Rattle.gs_grammar_level.specs.Cuttings.{IsCuttingOf}
use Rattle.gs_grammar_level.specs.Fronts.{IsFrontOf}
use Rattle.gs_grammar_level.proofs.FitLemmas.{found_at}
use Rattle.gs_grammar_level.proofs.FrontLemmas.{none_by_places}
use Rattle.gs_grammar_level.proofs.CuttingLemmas.{none_by_cuts}
use Rattle.gs_grammar_level.proofs.share.are_told_apart.Goals as goal

pub returns-in-Widths : goal.returns-in-Widths
returns-in-Widths c = λ _.
    none_by_cuts _ _ _ _ c.index-cuttings-i.result _ c.cuttings.ensures
    (found_at IsCuttingOf _ _ _ _ c.cuttings.ensures c.requires.first c.index-cuttings-i.is) c.in-Widths.is c.if-i-j.true

pub returns : goal.returns
returns c = λ apart.
    let one = found_at IsFrontOf _ _ _ _ c.fronts-fronts.ensures c.requires.first c.index-fronts-i.is in
    let other = found_at IsFrontOf _ _ _ _ c.fronts-fronts.ensures c.requires.second c.index-fronts-j.is in
    none_by_places _ _ _ _ c.index-fronts-i.result c.index-fronts-j.result c.fronts-fronts.ensures one other
    (rw (c.items.ensures, c.items-2.ensures, ← c.index-fronts-i.is, ← c.index-fronts-j.is) at (c.are_apart.ensures apart))
