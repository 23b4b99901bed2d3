use Rattle.gs_grammar.proofs.ItemWords.{language_is}
use Rattle.gs_grammar.proofs.laws.words_without_values.Goals as goal

pub returns : goal.returns
returns c = language_is
