use Rattle.gs_grammar_level.proofs.read.read_bits.Goals as goal

pub returns : goal.returns
returns g c = c.owned.ensures _ _ c.read_bits_within.ensures
