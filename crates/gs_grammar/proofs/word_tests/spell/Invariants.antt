use Rattle.std.proofs.Common.{◌≡◌, ◌≤◌, length, take}
use Rattle.gs_grammar.proofs.SpellingLemmas.{Gathers}
use Rattle.gs_grammar.proofs.word_tests.spell.Given as goal

abbrev pub invariant-loop-rest : goal.invariant-loop-rest
invariant-loop-rest l = record {
  room : length l.out ≡ 64;
  within : l.count ≤ 64;
  gathers : Gathers l.symbols l.rest (take l.count l.out);
}

abbrev pub decreases-loop-rest : goal.decreases-loop-rest
decreases-loop-rest l = length l.rest
