use Rattle.gs_translate.proofs.ReadAgain.{means_again}
use Rattle.gs_translate.proofs.TaggedLaws.{each_means_again}
use Rattle.gs_translate.proofs.laws.a_spelling_means_the_same.Goals as goal

pub returns-clause-of_pairs : goal.returns-clause-of_pairs
returns-clause-of_pairs c = means_again

pub returns-clause-in_each_form : goal.returns-clause-in_each_form
returns-clause-in_each_form c = each_means_again
