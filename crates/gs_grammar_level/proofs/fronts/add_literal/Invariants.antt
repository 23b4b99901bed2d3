use Rattle.std.proofs.Common.{◌≡◌, ◌++◌, map, take}
use Rattle.gs_grammar_level.specs.Fronts.{place_of}
use Rattle.gs_grammar_level.proofs.fronts.add_literal.Given as goal

abbrev pub invariant-loop-symbol : goal.invariant-loop-symbol
invariant-loop-symbol l = l.places.items ≡ l.fn.places.items ++ map (λ symbol. place_of symbol symbol) (take l.symbol-index l.literal)
