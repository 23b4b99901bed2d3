use Rattle.std.proofs.Common.{arith, ◌<◌}
use Rattle.gs_grammar_compile.proofs.AddedRows.{ok_follows}
use Rattle.gs_grammar_compile.proofs.AddedCodes.{some_edge, no_edge, row_is}
use Rattle.gs_grammar_compile.proofs.code_states.add_bit.Goals as goal

pub returns-then-target-eq0 : goal.returns-then-target-eq0
returns-then-target-eq0 c =
    ok_follows _ _ (λ _ e. row_is _ _ _ _ e (no_edge c.args.bit c.args.base c.args.next c.args.target c.if-target-eq0.true)) c.push_state.result c.push_state.ensures

pub returns : goal.returns
returns c =
    let apart = c.if-target-eq0.false in
    let some : 0 < c.args.target = omega arith in
    ok_follows _ _ (λ _ e. row_is _ _ _ _ (rw c.bit_edge.ensures at e) (some_edge c.args.bit c.args.base c.args.next c.args.target c.in_ok-to.to some c.in_ok-to.ensures)) c.push_state-2.result c.push_state-2.ensures
