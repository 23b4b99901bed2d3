use Rattle.std.proofs.Common.{◌≤◌, length}
use Rattle.gs_linktext_grammar.specs.Lexemes.{Chain}
use Rattle.gs_linktext_grammar.specs.Pieces.{has_no_comma}
use Rattle.gs_linktext_grammar.proofs.params.cut_piece.Given as goal

-- the text is the lexemes so far and then the rest, and none of them is a comma
abbrev pub invariant-loop-behind : goal.invariant-loop-behind
invariant-loop-behind l = (Chain l.lexemes.items l.fn.text l.rest × has_no_comma l.lexemes.items) × (length l.rest ≤ length l.fn.text)

abbrev pub decreases-loop-behind : goal.decreases-loop-behind
decreases-loop-behind l = length l.rest
