use Rattle.gs_grammar.proofs.WordLaws.{word_fixes_value}
use Rattle.gs_grammar.proofs.laws.word_fixes_its_value.Goals as goal

pub returns : goal.returns
returns c = word_fixes_value
