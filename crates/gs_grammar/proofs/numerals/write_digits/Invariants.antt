use Rattle.std.proofs.Common.{◌≡◌, length}
use Rattle.gs_grammar.proofs.NumberWords.{WritesFrom}
use Rattle.gs_grammar.proofs.numerals.write_digits.Given as goal

abbrev pub invariant-loop-place : goal.invariant-loop-place
invariant-loop-place l = record { writes : WritesFrom l.number l.place l.left l.places; long : length l.places ≡ length l.fn.places }

abbrev pub decreases-loop-place : goal.decreases-loop-place
decreases-loop-place l = l.place
