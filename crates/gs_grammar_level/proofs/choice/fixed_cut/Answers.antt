use Rattle.gs_chars.proofs.TruthsAndLists.{read_at}
use Rattle.gs_grammar_level.specs.Cuttings.{AreWidthsOf, IsCuttingOf}
use Rattle.gs_grammar_level.proofs.FitLemmas.{fits_at}
use Rattle.gs_grammar_level.proofs.choice.fixed_cut.Goals as goal

pub returns : goal.returns
returns c =
    let fits = fits_at IsCuttingOf _ _ _ _ _ c.cuttings.ensures c.requires c.index-cuttings-option.is (rw c.options.ensures.options at c.index-options-option.is) in
    let widths : AreWidthsOf c.in-Widths.places c.index-options-option.result = rw c.in-Widths.is at fits in
    record {
      option = c.index-options-option.result;
      at = read_at _ _ _ c.requires (rw c.options.ensures.options at c.index-options-option.is);
      items_are = c.items-items.ensures.items;
      each = c.items-items.ensures.each;
      fixed = rw c.items-items.ensures.items widths.fixed;
      places_are = rw (c.items-items.ensures.items, c.items-places.ensures) widths.places_are;
    }
