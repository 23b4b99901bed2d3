use Rattle.gs_linktext.proofs.reader.push_copy.Goals as goal

pub returns : goal.returns
returns c = rw c.in_ok-copy.ensures at c.push_link.ensures
