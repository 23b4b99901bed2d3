use Rattle.gs_links.proofs.RunLemmas.{are_names, names_unique}
use Rattle.gs_links.proofs.laws.names_of_relations.Goals as goal

pub returns : goal.returns
returns c = λ links names. (λ is. rw is (are_names links), names_unique links names)
