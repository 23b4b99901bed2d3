use Rattle.std.proofs.Common.{◌∙◌, mod-eq_of_lt}
use Rattle.gs_bits.specs.BitLaws.{number_of-bits_of}
use Rattle.gs_bits.proofs.laws.number_of_its_bits.Goals as goal

pub returns : goal.returns
returns c = λ n number h. number_of-bits_of n number ∙ mod-eq_of_lt h
