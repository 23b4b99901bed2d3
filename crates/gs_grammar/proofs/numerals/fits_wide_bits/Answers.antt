use Rattle.gs_grammar.proofs.Rooms.{no_wide_room}
use Rattle.gs_grammar.proofs.numerals.fits_wide_bits.Goals as goal

pub returns-in-None : goal.returns-in-None
returns-in-None c = no_wide_room _ _ c.ranges.bits.fits c.in-None.ensures
