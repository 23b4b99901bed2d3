use Rattle.std.proofs.Common.{length}
use Rattle.gs_grammar.proofs.Packs.{PackCollects}
use Rattle.gs_grammar.proofs.bit_words.unpacked.Given as goal

abbrev pub invariant-loop-code : goal.invariant-loop-code
invariant-loop-code l = PackCollects l.symbols l.rest l.value

abbrev pub decreases-loop-code : goal.decreases-loop-code
decreases-loop-code l = length l.rest
