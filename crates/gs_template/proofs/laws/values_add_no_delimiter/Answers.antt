use Rattle.gs_template.proofs.TemplateLemmas.{same_whole}
use Rattle.gs_template.proofs.laws.values_add_no_delimiter.Goals as goal

pub returns : goal.returns
returns c href identity bytes = same_whole identity bytes href
