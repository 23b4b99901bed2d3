use Rattle.gs_linkset.proofs.StreamLemmas.{not_last}
use Rattle.gs_linkset.proofs.document.read_document.Goals as goal

pub returns-clause-answer : goal.returns-clause-answer
returns-clause-answer c =
    not_last c.args.text.now c.read_root.new.reader _ _ (rw c.in-Ok.ensures.ok at c.in_ok-answer.ensures.ok) c.in-Some.ensures.value
