use Rattle.std.proofs.Common.{refl}
use Rattle.gs_grammar_compile.proofs.AddedCodes.{block_step, block_end}
use Rattle.gs_grammar_compile.proofs.code_states.add_block.Goals as goal

pub loop-row-preserved : goal.loop-row-preserved
loop-row-preserved c =
    block_step _ _ _ _ _ _ _ _ _ c.loop-row-test.true refl c.loop-row.invariant c.in_ok-add_bits.ensures

pub returns : goal.returns
returns c = block_end _ _ _ _ _ _ c.loop-row-test.false c.loop-row.invariant
