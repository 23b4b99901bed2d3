use Rattle.std.proofs.Common.{All, length}
use Rattle.gs_grammar.specs.Items.{IsItem}
use Rattle.gs_grammar_level.specs.OwnWords.{bit_value}
use Rattle.gs_grammar_level.proofs.OwnWords.{WordsSoFar}
use Rattle.gs_grammar_level.proofs.bit_words.are_bit_words.Given as goal

abbrev pub invariant-loop-item : goal.invariant-loop-item
invariant-loop-item l = record {
  words : WordsSoFar bit_value l.items l.left l.places l.ahead l.bits l.rest;
  each : All IsItem l.left;
}

abbrev pub decreases-loop-item : goal.decreases-loop-item
decreases-loop-item l = length l.left
