use Rattle.std.proofs.Common.{arith, ◌<◌, ◌^◌}
use Rattle.gs_grammar_compile.proofs.AddedRows.{ok_follows}
use Rattle.gs_grammar_compile.proofs.AddedNumerals.{int_added}
use Rattle.gs_grammar_compile.proofs.compiler.add_item.Goals as goal

pub returns-in-Int : goal.returns-in-Int
returns-in-Int c =
    let small : c.in-Int.max < 2 ^ 64 = omega arith in
    ok_follows _ _ (λ _. int_added _ _ _ _ c.in-Int.is small) c.add_numeral.result c.add_numeral.ensures

pub returns-in-Fill : goal.returns-in-Fill
returns-in-Fill c =
    ok_follows _ _ (λ _ e. rw c.in-Fill.is (rw (c.from-in-Fill.ensures, c.from-in-Fill-2.ensures) at e)) c.add_fill.result c.add_fill.ensures

pub returns-in-Pad : goal.returns-in-Pad
returns-in-Pad c = ok_follows _ _ (λ _ e. rw c.in-Pad.is (rw c.from.ensures at e)) c.add_run.result c.add_run.ensures

pub returns-in-Digits : goal.returns-in-Digits
returns-in-Digits c =
    ok_follows _ _ (λ _ e. rw c.in-Digits.is (rw (c.from-in-Digits.ensures, c.from-in-Digits-2.ensures) at e)) c.add_digits.result c.add_digits.ensures
