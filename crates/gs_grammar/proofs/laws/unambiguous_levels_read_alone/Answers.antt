use Rattle.gs_grammar.proofs.OneReading.{only_derivation}
use Rattle.gs_grammar.proofs.laws.unambiguous_levels_read_alone.Goals as goal

pub returns : goal.returns
returns c = only_derivation
