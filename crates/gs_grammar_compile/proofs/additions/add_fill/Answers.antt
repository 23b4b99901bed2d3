use Rattle.std.proofs.Common.{arith, ◌<◌}
use Rattle.gs_grammar_compile.proofs.AddedRows.{fill_equal, fill_added, ok_follows}
use Rattle.gs_grammar_compile.proofs.additions.add_fill.Goals as goal

pub returns-then-least-most : goal.returns-then-least-most
returns-then-least-most c = ok_follows _ _ (λ _. fill_equal _ _ _ _ c.if-least-most.true) c.add_run.result c.add_run.ensures

pub returns : goal.returns
returns c =
    let order = c.requires.order in
    let apart = c.if-least-most.false in
    let less : c.args.least < c.args.most = omega arith in
    ok_follows _ _ (λ _. fill_added _ _ _ _ _ _ c.requires.some less c.in_ok-add_run.ensures c.in_ok-add_fork.ensures) c.add_run-3.result c.add_run-3.ensures
