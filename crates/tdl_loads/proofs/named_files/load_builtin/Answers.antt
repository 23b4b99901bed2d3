use Rattle.tdl_loads.proofs.ReadLemmas.{own_loaded}
use Rattle.tdl_loads.proofs.named_files.load_builtin.Goals as goal

pub returns : goal.returns
returns c = λ files errored. own_loaded files errored c.builtin.result c.tables_of.result c.builtin.ensures (rw c.new.ensures at c.tables_of.ensures)
