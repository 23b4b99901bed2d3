use Rattle.gs_grammar.proofs.Rooms.{room_of_64}
use Rattle.gs_grammar.proofs.item.fits_bits.Goals as goal

pub returns-then-bits-ge64 : goal.returns-then-bits-ge64
returns-then-bits-ge64 c = room_of_64 _ _ c.if-bits-ge64.true c.ranges.number.fits
