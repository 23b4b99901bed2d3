use Rattle.gs_grammar_compile.proofs.AddedRows.{ok_follows}
use Rattle.gs_grammar_compile.proofs.AddedCodes.{ascii_at}
use Rattle.gs_grammar_compile.proofs.code_states.add_packed.Goals as goal

pub returns : goal.returns
returns c =
    ok_follows _ _ (λ _. ascii_at c.args.lo c.args.hi c.args.bits c.from-least.result c.from-most.result c.from-width.result c.in_ok-end.end c.args.table.now _ _ c.from-least.ensures c.from-most.ensures c.from-width.ensures c.in_ok-end.ensures c.in_ok-add_codes.ensures) c.add_run.result c.add_run.ensures
