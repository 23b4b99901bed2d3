use Rattle.gs_grammar.proofs.ItemWords.{numpad_number, num_number, numstr_number}
use Rattle.gs_grammar.proofs.laws.word_writes_its_value.Goals as goal

pub returns-clause-digits : goal.returns-clause-digits
returns-clause-digits c = numpad_number

pub returns-clause-numeral : goal.returns-clause-numeral
returns-clause-numeral c = num_number

pub returns-clause-behind_one : goal.returns-clause-behind_one
returns-clause-behind_one c = numstr_number
