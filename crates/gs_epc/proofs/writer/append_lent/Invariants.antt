use Rattle.std.proofs.Common.{◌≡◌}
use Rattle.gs_epc.proofs.NumberWalks.{TriedFirst}
use Rattle.gs_epc.proofs.writer.append_lent.Given as goal

abbrev pub invariant-loop-number : goal.invariant-loop-number
invariant-loop-number l = record {
  tried : TriedFirst l.set l.level l.epc l.info l.numbers l.number-index l.rejection;
  same : l.out.items ≡ l.initial.out.items;
}
