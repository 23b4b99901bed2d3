use Rattle.std.proofs.Common.{◌≡◌, map}
use Rattle.gs_merge.specs.Groups.{entry_seen}
use Rattle.gs_merge.proofs.GroupLemmas.{made_relation}
use Rattle.gs_merge.proofs.merger.relations_of.Given as goal

abbrev pub invariant-loop-entry : goal.invariant-loop-entry
invariant-loop-entry l = l.relations.items ≡ map made_relation (map (entry_seen (λ g. g.items)) l.yielded)
