use Rattle.gs_bits.specs.BitLaws.{bits_of-number_of}
use Rattle.gs_bits.proofs.laws.bits_of_their_number.Goals as goal

pub returns : goal.returns
returns c = bits_of-number_of
