use Rattle.std.proofs.Common.{sym}
use Rattle.gs_ai.proofs.TableLemmas.{no_key}
use Rattle.gs_ai.specs.Values.{has_code}
use Rattle.gs_ai.proofs.table.AiTable.is_key.Goals as goal
use Rattle.gs_chars.proofs.Searches.{find_none}

pub returns-in-None : goal.returns-in-None
returns-in-None c =
    let none = find_none (has_code c.args.code.now) c.args.self.now (sym c.in-None.ensures.row) in
    sym (no_key c.args.self.now (rw c.self.view_is at c.self.invariant.0) c.args.code.now none)
