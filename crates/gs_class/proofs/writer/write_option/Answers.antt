use Rattle.std.proofs.Common.{refl}
use Rattle.gs_class.proofs.WrittenItems.{rejected_answer, written_answer}
use Rattle.gs_class.proofs.writer.write_option.Goals as goal

pub returns-in-Ok : goal.returns-in-Ok
returns-in-Ok c =
    written_answer c.args.ais.now c.args.class.now c.args.option.now.items c.args.identity.now c.requires.can_write _ _ _ _ c.in_ok-said.ensures.apart c.items.ensures c.in_ok-values.ensures c.as_slice.ensures.value
    c.in-Ok.text (c.in-Ok.ensures.held refl) c.in-Ok.ensures.written

pub returns-in-Err-CannotHold : goal.returns-in-Err-CannotHold
returns-in-Err-CannotHold c =
    rejected_answer c.args.ais.now c.args.class.now c.args.option.now.items c.args.identity.now c.requires.can_write _ _ _ _ c.in_ok-said.ensures.apart c.items.ensures c.in_ok-values.ensures c.as_slice.ensures.value
    c.in-Err-CannotHold.field-0-0 c.in-Err-CannotHold.why (rw c.in-Err-CannotHold.field-0-is at c.in-Err-CannotHold.ensures.rejected)

pub class_fields-requires : goal.class_fields-requires
class_fields-requires c = c.requires.can_write.qualified
