use Rattle.gs_template.proofs.BraceLemmas.{no_brace}
use Rattle.gs_template.proofs.laws.no_brace_is_left.Goals as goal

pub returns : goal.returns
returns c table key href identity bytes none = no_brace table key href identity bytes none
