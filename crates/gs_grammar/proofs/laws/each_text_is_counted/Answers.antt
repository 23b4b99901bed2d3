use Rattle.gs_grammar.proofs.DecidedWords.{each_counted}
use Rattle.gs_grammar.proofs.laws.each_text_is_counted.Goals as goal

pub returns : goal.returns
returns c = each_counted
