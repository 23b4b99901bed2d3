use Rattle.gs_linktext.proofs.ReadLemmas.{rel_seen}
use Rattle.gs_linktext.proofs.reader.is_rel_error.Goals as goal

pub returns : goal.returns
returns c = rel_seen c.args.types.now c.has_anchor.result c.if-is_empty.ensures c.has_anchor.ensures
