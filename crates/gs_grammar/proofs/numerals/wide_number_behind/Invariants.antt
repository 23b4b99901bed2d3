use Rattle.std.proofs.Common.{◌≡◌, ◌<◌, ◌^◌, drop}
use Rattle.gs_grammar.specs.NumeralsSupport.{number_behind}
use Rattle.gs_grammar.proofs.Numbers.{value_after}
use Rattle.gs_grammar.proofs.numerals.wide_number_behind.Given as goal

abbrev pub invariant-loop-digit : goal.invariant-loop-digit
invariant-loop-digit l = record {
  value : value_after l.number (drop l.digit-index l.digits) ≡ number_behind l.front l.digits;
  small : l.number < 2 ^ 256;
}
