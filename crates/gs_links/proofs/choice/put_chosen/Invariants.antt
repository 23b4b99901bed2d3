use Rattle.std.proofs.Common.{length}
use Rattle.gs_links.specs.Choices.{is_chosen}
use Rattle.gs_links.proofs.IndexLemmas.{IsPut}
use Rattle.gs_links.proofs.choice.put_chosen.Given as goal

abbrev pub invariant-loop-number : goal.invariant-loop-number
invariant-loop-number l = IsPut l.links (is_chosen l.identity l.want l.depth) l.numbers (length l.initial.out) l.number-index l.count l.out
