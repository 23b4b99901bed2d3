use Rattle.std.proofs.Common.{◌∙◌, sym, arith}
use Rattle.gs_ai.proofs.PartTexts.{no_front, no_back, number_of, joined, same_number}
use Rattle.gs_ai.proofs.part.read_between.Goals as goal
use Rattle.gs_ai.proofs.part.read_between.Goals.{else-least-k-via-then-least-k+else-k-greatest, else-least-k-via-else-least-k}

pub returns-in_err-strip_prefix-clause-none : goal.returns-in_err-strip_prefix-clause-none
returns-in_err-strip_prefix-clause-none c = rw c.from_residual.ensures (λ k low high e. no_front _ _ _ _ c.in_err-strip_prefix.ensures.cases e)

pub returns-in_err-number-clause-none : goal.returns-in_err-number-clause-none
returns-in_err-number-clause-none c =
    let front = c.in_ok-strip_prefix.ensures.cases in
    rw c.from_residual-in_err-number.ensures (λ k low high e. no_back _ _ _ _ _ front.1 c.in_err-number.ensures.cases e)

pub returns-then-k-greatest-clause-read : goal.returns-then-k-greatest-clause-read
returns-then-k-greatest-clause-read c =
    let front = c.in_ok-strip_prefix.ensures.cases in
    let back = c.in_ok-number.ensures.cases in
    let middle = c.in_ok-k.ensures.read in
    let whole = joined _ _ _ _ _ front.0 front.1 back.0 back.1 in
    (c.if-least-k.true, c.if-k-greatest.true, rw middle.2 whole)

pub returns-in_err-k-clause-none : goal.returns-in_err-k-clause-none
returns-in_err-k-clause-none c =
    let front = c.in_ok-strip_prefix.ensures.cases in
    let back = c.in_ok-number.ensures.cases in
    rw c.from_residual-in_err-k.ensures (λ k low high e. c.in_err-k.ensures.none k (omega arith) (omega arith) (number_of _ _ _ _ _ _ front.1 back.1 e))

pub returns-else-least-k-clause-none : goal.returns-else-least-k-clause-none
returns-else-least-k-clause-none c =
    let front = c.in_ok-strip_prefix.ensures.cases in
    let back = c.in_ok-number.ensures.cases in
    let read = c.in_ok-k.ensures.read in
    λ k low high e.
    let same = same_number k c.in_ok-k.k (omega arith) read.1 (number_of _ _ _ _ _ _ front.1 back.1 e ∙ sym read.2) in
    elim c.else-least-k.branch as (λ _. ⊥) [
      | else-least-k-via-then-least-k+else-k-greatest w ↦ let above = w.if-k-greatest.false in omega arith
      | else-least-k-via-else-least-k w ↦ let below = w.if-least-k.false in omega arith
    ]
