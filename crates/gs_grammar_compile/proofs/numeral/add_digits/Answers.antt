use Rattle.gs_grammar_compile.proofs.AddedRows.{ok_follows}
use Rattle.gs_grammar_compile.proofs.AddedOnes.{digits_added}
use Rattle.gs_grammar_compile.proofs.numeral.add_digits.Goals as goal

pub returns : goal.returns
returns c = ok_follows _ _ (λ _. digits_added c.args.least c.args.most _ _ _ c.in_ok-add_run.ensures) c.add_free.result c.add_free.ensures
