use Rattle.gs_grammar_level.proofs.CutsBack.{Back}
use Rattle.gs_grammar_level.proofs.cuttings.cut_back.Given as goal

abbrev pub invariant-loop-place : goal.invariant-loop-place
invariant-loop-place l = Back l.machine l.trail l.symbols l.place l.entry l.cuts.items

abbrev pub decreases-loop-place : goal.decreases-loop-place
decreases-loop-place l = l.place
