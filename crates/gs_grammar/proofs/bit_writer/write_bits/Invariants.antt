use Rattle.std.proofs.Common.{◌≡◌, ◌≤◌, ◌+◌, ◌*◌, ◌++◌, take, drop, length}
use Rattle.gs_grammar.specs.Items.{size_of_all}
use Rattle.gs_grammar.specs.WrittenWords.{written, AreHeldBefore}
use Rattle.gs_grammar.proofs.bit_writer.write_bits.Given as goal

abbrev pub invariant-loop-number : goal.invariant-loop-number
invariant-loop-number g l = record {
  held : AreHeldBefore l.option.items l.values l.number;
  whole : l.out ++ written (drop l.number l.option.items) (drop l.number l.values) ≡ l.initial.out ++ written l.option.items l.values;
  front : take (length l.initial.out) l.out ≡ l.initial.out;
  room : length l.out + size_of_all (drop l.number l.option.items) ≤ 8 * g.row.N;
}
