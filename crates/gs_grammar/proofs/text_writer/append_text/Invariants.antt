use Rattle.std.proofs.Common.{◌≡◌, ◌++◌, take, drop, length}
use Rattle.gs_grammar.specs.WrittenWords.{written, AreHeldBefore}
use Rattle.gs_grammar.proofs.text_writer.append_text.Given as goal

abbrev pub invariant-loop-number : goal.invariant-loop-number
invariant-loop-number l = record {
  held : AreHeldBefore l.option.items l.values l.number;
  whole : l.text.items ++ written (drop l.number l.option.items) (drop l.number l.values) ≡ l.initial.text.items ++ written l.option.items l.values;
  front : take (length l.initial.text.items) l.text.items ≡ l.initial.text.items;
}
