use Rattle.std.proofs.Common.{arith}
use Rattle.std.proofs.lemmas.Grind.{common_steps}
use Rattle.std.proofs.lemmas.List.{take_rest}
use Rattle.gs_grammar.proofs.Packs.{pack_collects_step, pack_collects_end, code_length}
use Rattle.gs_grammar.proofs.bit_words.unpacked.Goals as goal

pub slice_bounds-rest-count : goal.slice_bounds-rest-count
slice_bounds-rest-count c = let l = code_length _ _ c.in-Some.ensures.some in omega arith

pub slice_bounds-rest-start : goal.slice_bounds-rest-start
slice_bounds-rest-start c = let l = code_length _ _ c.in-Some.ensures.some in omega arith

pub loop-code-smaller : goal.loop-code-smaller
loop-code-smaller c = let l = code_length _ _ c.in-Some.ensures.some in grind (arith, common_steps)

pub loop-code-preserved : goal.loop-code-preserved
loop-code-preserved c =
    rw (c.in_ok-push.ensures.appended, take_rest) (pack_collects_step _ _ _ _ c.loop-code.invariant c.in-Some.ensures.some)

pub returns : goal.returns
returns c = pack_collects_end _ _ _ c.loop-code.invariant c.in_default.ensures.none
