use Rattle.std.proofs.Common.{sym, arith}
use Rattle.gs_linktext_grammar.proofs.ChainLemmas.{nothing, piece_ends, piece_goes_on, piece_more, piece_rejected, something}
use Rattle.std.proofs.lemmas.Result.{err_from_is_err_and}
use Rattle.gs_linktext_grammar.proofs.params.cut_piece.Goals as goal

pub returns-then-is_empty-clause-ok : goal.returns-then-is_empty-clause-ok
returns-then-is_empty-clause-ok c =
    let h = c.loop-behind.invariant.0 in
    piece_ends c.loop-behind.lexemes.items c.args.text.now c.loop-behind.rest.now h.0 h.1
    (nothing _ _ c.if-is_empty.ensures c.after_blanks-behind.ensures.value)

pub returns-in_err-next-clause-err : goal.returns-in_err-next-clause-err
returns-in_err-next-clause-err c =
    let p = err_from_is_err_and c.from_residual.result c.from_residual.ensures.1 in
    let h = c.loop-behind.invariant.0 in
    rw (p.1, p.2) (piece_rejected c.loop-behind.lexemes.items c.args.text.now c.loop-behind.rest.now c.in_err-next.field-0.0 h.0 (something _ _ c.if-is_empty.ensures c.after_blanks-behind.ensures.value) (rw c.after_blanks-behind.ensures.value at c.in_err-next.ensures.err))

pub returns-then-is_comma-clause-ok : goal.returns-then-is_comma-clause-ok
returns-then-is_comma-clause-ok c =
    let h = c.loop-behind.invariant.0 in
    piece_goes_on c.loop-behind.lexemes.items c.in_ok-next.next.lexeme c.args.text.now c.loop-behind.rest.now c.in_ok-next.next.rest.now h.0 h.1 (rw c.after_blanks-behind.ensures.value at c.in_ok-next.ensures.ok) (sym c.if-is_comma.ensures)

pub loop-behind-preserved : goal.loop-behind-preserved
loop-behind-preserved c =
    let h = c.loop-behind.invariant in
    let less = c.in_ok-next.ensures.shorter in
    let within = c.after_blanks-behind.ensures.within in (
      piece_more c.loop-behind.lexemes.items c.push.new.self.items c.in_ok-next.next.lexeme c.args.text.now c.loop-behind.rest.now c.in_ok-next.next.rest.now h.0.0 h.0.1 (rw c.after_blanks-behind.ensures.value at c.in_ok-next.ensures.ok) (sym c.if-is_comma.ensures) c.in_ok-push.ensures.items,
      omega (arith, less, within, h.1),
    )
