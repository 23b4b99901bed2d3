use Rattle.gs_grammar.proofs.Rooms.{no_low_room, high_room}
use Rattle.gs_grammar.proofs.bit_words.WideNumber.fits_bits.Goals as goal

pub returns-else-self-eq0 : goal.returns-else-self-eq0
returns-else-self-eq0 c = no_low_room _ _ _ _ c.self.view_is c.if-bits-lt128.true c.if-self-eq0.false

pub returns-else-bits-lt128 : goal.returns-else-bits-lt128
returns-else-bits-lt128 c = high_room _ _ _ _ c.self.view_is c.self.invariant c.if-bits-lt128.false c.ranges.bits.fits
