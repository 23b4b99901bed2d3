use Rattle.std.proofs.Common.{sym, ◌∙◌}
use Rattle.gs_dlink.proofs.PlaceLemmas.{no_row_no_key}
use Rattle.gs_dlink.proofs.path.is_key.Goals as goal

pub returns-in-None : goal.returns-in-None
returns-in-None c = sym (no_row_no_key c.args.table.now c.args.pair.now.code.now (sym c.requires ∙ c.in-None.is))
