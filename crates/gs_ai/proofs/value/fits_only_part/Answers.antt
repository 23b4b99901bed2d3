use Rattle.std.proofs.Common.{◌≡◌, ◌==◌, length, true, sym, ◌∙◌, arith}
use Rattle.std.proofs.lemmas.Bool.Decides.{nat_tests}
use Rattle.gs_ai.proofs.FitLemmas.{only_fits}
use Rattle.gs_ai.proofs.value.fits_only_part.Goals as goal

pub returns : goal.returns
returns c h =
    let empty : (length c.in-Some.others.now == 0) ≡ true = sym c.is_empty.ensures ∙ c.if-not-is_empty.false in
    only_fits c.args.parts.now c.in-Some.part.now c.in-Some.others.now c.args.value.now c.in-Some.ensures.cases.0 (grind (arith, nat_tests))
    (rw c.least.ensures.value at c.if-value-least.false) (rw c.greatest.ensures.value at c.if-greatest-value.false) (sym c.fits.ensures ∙ h)
