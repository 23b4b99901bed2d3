-- The errors of the private steps of reading.
use Rattle.gs_linktext_grammar.specs.declared.error.LinkTextFault.{LinkTextFault}
use Rattle.gs_linktext_grammar.specs.declared.error.LinkTextFault.TheVariants.{Syntax, Anchor, Rel, Memory}

-- trusted, own: holds if the error is `Memory`, or it is `Syntax` and `Fact` holds
abbrev pub IsSyntax : Type 0 → LinkTextFault → Type 0
IsSyntax Fact Syntax = Fact
IsSyntax Fact (Anchor i) = ⊥
IsSyntax Fact (Rel i) = ⊥
IsSyntax Fact Memory = Unit {0}
