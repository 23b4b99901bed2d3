use Rattle.std.proofs.Common.{length}
use Rattle.gs_linktext_grammar.specs.Pieces.{IsSoFar}
use Rattle.gs_linktext_grammar.proofs.links.read_links.Given as goal

abbrev pub invariant-loop-links : goal.invariant-loop-links
invariant-loop-links l = IsSoFar l.fn.text l.rest l.links.items

abbrev pub decreases-loop-links : goal.decreases-loop-links
decreases-loop-links l = length l.rest
