use Rattle.std.proofs.Common.{length}
use Rattle.gs_grammar.proofs.Packs.{PackCounts}
use Rattle.gs_grammar.proofs.bit_words.packed_count.Given as goal

abbrev pub invariant-loop-code : goal.invariant-loop-code
invariant-loop-code l = PackCounts l.symbols l.rest l.count

abbrev pub decreases-loop-code : goal.decreases-loop-code
decreases-loop-code l = length l.rest
