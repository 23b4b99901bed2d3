use Rattle.gs_grammar.proofs.WordLaws.{word_not_empty}
use Rattle.gs_grammar.proofs.laws.no_word_is_empty.Goals as goal

pub returns : goal.returns
returns c = word_not_empty
