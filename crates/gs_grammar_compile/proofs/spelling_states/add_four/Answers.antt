use Rattle.gs_grammar_compile.proofs.AddedRows.{ok_follows}
use Rattle.gs_grammar_compile.proofs.AddedCodes.{four_rows}
use Rattle.gs_grammar_compile.proofs.spelling_states.add_four.Goals as goal

pub returns : goal.returns
returns c = ok_follows _ _ (λ _. four_rows _ _ _ _ _ _ _ _ _ c.in_ok-push_state.ensures c.in_ok-push_state-2.ensures c.in_ok-push_state-3.ensures) c.push_state-4.result c.push_state-4.ensures
