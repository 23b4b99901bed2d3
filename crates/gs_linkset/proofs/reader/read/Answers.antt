use Rattle.gs_linkset.proofs.DocumentLemmas.{no_text, text_answer}
use Rattle.gs_linkset.proofs.reader.read.Goals as goal

pub returns-in-Err : goal.returns-in-Err
returns-in-Err c = no_text c.args.bytes.now c.in-Err.ensures.cases.0

pub returns-in-Ok : goal.returns-in-Ok
returns-in-Ok c = text_answer c.args.bytes.now c.read_linkset.result c.in-Ok.ensures.cases.1 (rw c.in-Ok.ensures.cases.0 at c.read_linkset.ensures)
