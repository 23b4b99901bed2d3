use Rattle.std.proofs.Common.{◌≡◌, ◌++◌, drop}
use Rattle.gs_grammar.proofs.bit_writer.push_symbols.Given as goal

abbrev pub invariant-loop-symbol : goal.invariant-loop-symbol
invariant-loop-symbol g l = l.out ++ drop l.symbol-index l.symbols ≡ l.initial.out ++ l.symbols
