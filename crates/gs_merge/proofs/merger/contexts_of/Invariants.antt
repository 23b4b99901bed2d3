use Rattle.std.proofs.Common.{◌≡◌, map}
use Rattle.gs_merge.specs.Groups.{entry_seen}
use Rattle.gs_merge.proofs.GroupLemmas.{made_context}
use Rattle.gs_merge.proofs.merger.contexts_of.Given as goal

abbrev pub invariant-loop-entry : goal.invariant-loop-entry
invariant-loop-entry l = l.contexts.items ≡ map made_context (map (entry_seen (λ g. g.items)) l.yielded)
