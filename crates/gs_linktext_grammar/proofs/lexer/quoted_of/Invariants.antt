use Rattle.std.proofs.Common.{◌≡◌, length}
use Rattle.gs_linktext_grammar.specs.Prefixes.{with_bytes}
use Rattle.gs_linktext_grammar.specs.Lexemes.{unquoted}
use Rattle.gs_linktext_grammar.proofs.lexer.quoted_of.Given as goal

-- the value of the whole is the part that was read and the value of the rest
abbrev pub invariant-loop-step : goal.invariant-loop-step
invariant-loop-step l = unquoted l.fn.text ≡ with_bytes l.value (unquoted l.rest)

abbrev pub decreases-loop-step : goal.decreases-loop-step
decreases-loop-step l = length l.rest
