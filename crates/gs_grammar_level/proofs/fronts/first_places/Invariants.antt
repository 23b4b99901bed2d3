use Rattle.std.proofs.Common.{length, All}
use Rattle.gs_grammar.specs.Items.{IsItem}
use Rattle.gs_grammar_level.proofs.FrontLemmas.{PlacesSoFar}
use Rattle.gs_grammar_level.proofs.fronts.first_places.Given as goal

abbrev pub invariant-loop-item : goal.invariant-loop-item
invariant-loop-item l = record {
  items : All IsItem l.left;
  places : PlacesSoFar l.items l.left l.places.items;
}

abbrev pub decreases-loop-item : goal.decreases-loop-item
decreases-loop-item l = length l.left
