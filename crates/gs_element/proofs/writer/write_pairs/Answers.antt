use Rattle.gs_ident.proofs.BeginLemmas.{begins_after, begins_more, on_err}
use Rattle.gs_element.proofs.writer.write_pairs.Goals as goal

pub returns-in_err-write_pair-clause-begun : goal.returns-in_err-write_pair-clause-begun
returns-in_err-write_pair-clause-begun c = on_err c.from_residual.result _
    (begins_after _ _ _ c.in_err-write_pair.ensures.begun (begins_more _ _ _ c.loop-pair.invariant))
