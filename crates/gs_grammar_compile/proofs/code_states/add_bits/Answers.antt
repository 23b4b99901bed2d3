use Rattle.std.proofs.Common.{arith, ◌<◌}
use Rattle.gs_grammar_compile.proofs.AddedRows.{ok_follows}
use Rattle.gs_grammar_compile.proofs.AddedCodes.{no_zero, no_one, two_edges, row_is}
use Rattle.gs_grammar_compile.proofs.code_states.add_bits.Goals as goal

pub returns-then-zero-eq0 : goal.returns-then-zero-eq0
returns-then-zero-eq0 c =
    ok_follows _ _ (λ _ e. row_is _ _ _ _ e (no_zero c.args.base c.args.next c.args.zero c.args.one c.if-zero-eq0.true)) c.add_bit.result c.add_bit.ensures

pub returns-then-one-eq0 : goal.returns-then-one-eq0
returns-then-one-eq0 c =
    ok_follows _ _ (λ _ e. row_is _ _ _ _ e (no_one c.args.base c.args.next c.args.zero c.args.one c.if-one-eq0.true)) c.add_bit-then-one-eq0.result c.add_bit-then-one-eq0.ensures

pub returns : goal.returns
returns c =
    let no_zeros = c.if-zero-eq0.false in
    let no_ones = c.if-one-eq0.false in
    let zeros : 0 < c.args.zero = omega arith in
    let ones : 0 < c.args.one = omega arith in
    ok_follows _ _ (λ _ e. row_is _ _ _ _ (rw (c.bit_edge.ensures, c.bit_edge-2.ensures) at e) (two_edges c.args.base c.args.next c.args.zero c.args.one c.in_ok-low.low c.in_ok-high.high zeros ones c.in_ok-low.ensures c.in_ok-high.ensures)) c.push_state.result c.push_state.ensures
