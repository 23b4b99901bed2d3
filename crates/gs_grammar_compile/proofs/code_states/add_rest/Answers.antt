use Rattle.std.proofs.Common.{ℕ, ◌++◌, ap, ◌∙◌}
use Rattle.gs_grammar_compile.specs.CodeTables.{code_block, code_states}
use Rattle.gs_grammar_compile.proofs.AddedRows.{ok_follows}
use Rattle.gs_grammar_compile.proofs.code_states.add_rest.Goals as goal

pub returns : goal.returns
unfolding code_states
returns c =
    ok_follows _ _ (λ _ e. e ∙ ap (λ (k : ℕ). c.args.table.now ++ code_block code_states k c.args.next) c.len-base.ensures) c.add_block.result c.add_block.ensures
