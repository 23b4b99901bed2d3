use Rattle.std.proofs.Common.{append-nil, sym}
use Rattle.gs_ident.proofs.BeginLemmas.{begins_after, begins_more, on_err}
use Rattle.gs_element.proofs.WritingLemmas.{value_more, value_whole}
use Rattle.gs_element.proofs.writer.write_value.Goals as goal

pub loop-c-init : goal.loop-c-init
loop-c-init c = sym (append-nil c.args.out.now.items)

pub loop-c-preserved : goal.loop-c-preserved
loop-c-preserved c = value_more c.args.value.now c.loop-c.c-index c.args.out.now.items c.loop-c.out.items c.write_character.new.out.items c.loop-c-test.true c.loop-c.invariant c.in_ok-write_character.ensures.written

pub returns-clause-written : goal.returns-clause-written
returns-clause-written c = value_whole c.args.value.now c.loop-c.c-index c.args.out.now.items c.loop-c.out.items c.loop-c-test.false c.loop-c.invariant

pub returns-in_err-write_character-clause-begun : goal.returns-in_err-write_character-clause-begun
returns-in_err-write_character-clause-begun c = on_err c.from_residual.result _
    (begins_after _ _ _ c.in_err-write_character.ensures.begun (begins_more _ _ _ c.loop-c.invariant))
