use Rattle.std.proofs.Common.{◌≡◌, ℕ, List, false, refl, sym, ◌∙◌}
use Rattle.gs_grammar_compile.specs.Places.{is_border}
use Rattle.gs_grammar_level.specs.Trails.{with_cut}
use Rattle.gs_grammar_level.proofs.cuttings.push_cut.Goals as goal

no_cut : (borders cuts : List ℕ) (state place : ℕ) → is_border borders state ≡ false → cuts ≡ with_cut borders state place cuts
no_cut borders cuts state place none = rw none refl

pub returns-else-is_border : goal.returns-else-is_border
returns-else-is_border c = no_cut c.args.borders.now c.args.cuts.now.items c.args.state c.args.place (sym c.is_border.ensures ∙ c.if-is_border.false)
