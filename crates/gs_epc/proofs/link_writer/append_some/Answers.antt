use Rattle.std.proofs.Common.{◌∙◌, sym}
use Rattle.gs_epc.proofs.WrittenLinks.{nothing_written}
use Rattle.gs_epc.proofs.link_writer.append_some.Goals as goal

pub returns-then-is_empty-clause-written : goal.returns-then-is_empty-clause-written
returns-then-is_empty-clause-written c = nothing_written c.args.out.now.items c.args.value.now (sym c.is_empty.ensures ∙ c.if-is_empty.true)
