use Rattle.gs_grammar.proofs.Packs.{NumberSoFar}
use Rattle.gs_grammar.proofs.bit_words.number_in_bits.Given as goal

abbrev pub invariant-loop-symbol : goal.invariant-loop-symbol
invariant-loop-symbol l = NumberSoFar l.symbols l.symbol-index l.number
