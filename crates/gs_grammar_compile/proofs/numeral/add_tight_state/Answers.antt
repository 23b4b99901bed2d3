use Rattle.gs_grammar_compile.proofs.AddedRows.{ok_follows}
use Rattle.gs_grammar_compile.proofs.numeral.add_tight_state.Goals as goal

pub returns-then-left-eq0 : goal.returns-then-left-eq0
returns-then-left-eq0 c = ok_follows _ _ (λ _ e. rw c.if-left-eq0.true (rw c.digits.ensures at e)) c.push_state.result c.push_state.ensures
