use Rattle.std.proofs.Common.{refl}
use Rattle.gs_ambig.proofs.SetBits.{clear_step, clear_end}
use Rattle.gs_ambig.proofs.search.clear.Goals as goal

pub loop-number-preserved : goal.loop-number-preserved
loop-number-preserved c = clear_step _ _ _ _ _ c.loop-number-test.true refl c.loop-number.invariant c.clear_word.ensures

pub returns : goal.returns
returns c = clear_end _ _ _ c.loop-number-test.false c.loop-number.invariant
