use Rattle.std.proofs.Common.{refl, length}
use Rattle.gs_grammar_compile.proofs.AddedRows.{ok_follows}
use Rattle.gs_grammar_compile.proofs.AddedCodes.{code_added}
use Rattle.gs_grammar_compile.proofs.code_states.add_code.Goals as goal

pub returns : goal.returns
returns c =
    ok_follows _ _ (λ _. code_added (length c.args.table.now) c.in_ok-next.next c.args.end c.args.lo c.args.more c.args.left c.args.table.now _ _ refl c.in_ok-next.ensures c.in_ok-add_root.ensures) c.add_rest.result c.add_rest.ensures
