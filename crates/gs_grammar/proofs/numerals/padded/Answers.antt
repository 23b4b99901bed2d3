use Rattle.std.proofs.Common.{arith}
use Rattle.std.proofs.lemmas.Grind.{common_steps}
use Rattle.gs_grammar.proofs.NumberWords.{padded_by}
use Rattle.gs_grammar.proofs.numerals.padded.Goals as goal

pub returns : goal.returns
returns c = rw c.in_ok-text.ensures (padded_by _ _ _ _ c.write_digits.ensures (grind (arith, common_steps)) c.requires.fits)
