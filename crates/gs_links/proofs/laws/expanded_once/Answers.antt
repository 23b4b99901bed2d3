use Rattle.gs_links.proofs.VocabularyLemmas.{expanded_once}
use Rattle.gs_links.proofs.laws.expanded_once.Goals as goal

pub returns : goal.returns
returns c voc name kept = expanded_once voc name kept
