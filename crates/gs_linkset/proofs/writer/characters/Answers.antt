use Rattle.gs_linkset.proofs.WrittenLemmas.{valid}
use Rattle.gs_linkset.proofs.writer.characters.Goals as goal

pub unwrap-requires : goal.unwrap-requires
unwrap-requires c = valid c.args.text.now _ _ c.from_utf8.result c.requires (rw c.as_bytes.ensures at c.from_utf8.ensures.cases)
