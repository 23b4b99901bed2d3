use Rattle.std.proofs.Common.{◌≡◌, ◌<◌, ◌^◌, drop}
use Rattle.gs_chars.specs.Characters.{are_digits}
use Rattle.gs_grammar.specs.NumeralsSupport.{number_behind}
use Rattle.gs_grammar.proofs.Numbers.{value_after}
use Rattle.gs_grammar.proofs.numerals.number_of_digits.Given as goal

abbrev pub invariant-loop-symbol : goal.invariant-loop-symbol
invariant-loop-symbol l = record {
  digits : are_digits (drop l.symbol-index l.symbols) ≡ are_digits l.symbols;
  value : value_after l.number (drop l.symbol-index l.symbols) ≡ number_behind l.front l.symbols;
  small : l.number < 2 ^ 64;
}
