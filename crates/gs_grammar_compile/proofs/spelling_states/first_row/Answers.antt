use Rattle.std.proofs.Common.{◌+◌, List, [], ◌∷◌, ◌++◌, ap, ◌∙◌}
use Rattle.gs_ambig.specs.declared.machine.Edge.{Edge}
use Rattle.gs_grammar_compile.specs.Tables.{edge}
use Rattle.gs_grammar_compile.proofs.spelling_states.first_row.Goals as goal

pub returns : goal.returns
returns c = c.in_ok-push.ensures.items ∙ ap (λ (row : List Edge). row ++ edge 37 37 (c.args.base + 1) ∷ []) c.in_ok-row.ensures
