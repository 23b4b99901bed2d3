use Rattle.std.proofs.Common.{refl, ◌∙◌, length}
use Rattle.gs_grammar_compile.proofs.AddedRows.{ok_follows}
use Rattle.gs_grammar_compile.proofs.AddedCodes.{character_rows}
use Rattle.gs_grammar_compile.proofs.spelling_states.add_character.Goals as goal

pub returns : goal.returns
returns c =
    ok_follows _ _ (λ _. character_rows c.args.lo c.args.more (length c.args.table.now) c.len-base.result c.in_ok-next.next c.args.end c.args.table.now _ _ _ _ refl c.len-base.ensures c.in_ok-next.ensures (c.as_slice.ensures.value ∙ c.in_ok-front.ensures) (c.as_slice-2.ensures.value ∙ c.in_ok-two.ensures) (c.as_slice-3.ensures.value ∙ c.in_ok-three.ensures)) c.add_four.result c.add_four.ensures
