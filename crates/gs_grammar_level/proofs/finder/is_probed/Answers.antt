use Rattle.gs_grammar_level.specs.Guides.{IsProbeOf}
use Rattle.gs_grammar_level.proofs.FitLemmas.{fits_here}
use Rattle.gs_grammar_level.proofs.Readers.{none_by_probe}
use Rattle.gs_grammar_level.proofs.finder.is_probed.Goals as goal

pub returns-then-begins_at : goal.returns-then-begins_at
returns-then-begins_at c = λ e.
    none_by_probe _ _ _ _ _ _ (fits_here IsProbeOf _ _ _ _ c.probes.ensures c.requires c.index-probes-option.is)
    (rw c.as_bytes-literal.ensures at c.stands_at.ensures).1 e

pub returns-else-begins_at : goal.returns-else-begins_at
returns-else-begins_at c = λ e.
    none_by_probe _ _ _ _ _ _ (fits_here IsProbeOf _ _ _ _ c.probes.ensures c.requires c.index-probes-option.is)
    (rw c.as_bytes-literal.ensures at c.begins_at.ensures) e
