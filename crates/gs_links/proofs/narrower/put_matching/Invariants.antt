use Rattle.std.proofs.Common.{length}
use Rattle.gs_links.specs.Languages.{matches}
use Rattle.gs_links.proofs.IndexLemmas.{IsPut}
use Rattle.gs_links.proofs.narrower.put_matching.Given as goal

abbrev pub invariant-loop-number : goal.invariant-loop-number
invariant-loop-number l = IsPut l.links (matches l.range) l.numbers (length l.initial.out) l.number-index l.count l.out
