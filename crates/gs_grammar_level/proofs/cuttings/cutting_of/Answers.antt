use Rattle.gs_grammar_level.proofs.CuttingLemmas.{read_alone}
use Rattle.gs_grammar_level.proofs.cuttings.cutting_of.Goals as goal

pub returns : goal.returns
returns c =
    let same = c.items-items.ensures.items in
    let fixed = c.cuts_are_fixed.ensures c.if-not-cuts_are_fixed.false in
    record {
      fixed = rw same at fixed;
      alone = rw same at (read_alone _ c.items-items.ensures.each fixed);
      places_are = rw same at c.in_ok-starts_of.ensures;
    }
