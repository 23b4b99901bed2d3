use Rattle.std.proofs.Common.{Err, subst}
use Rattle.gs_epc.specs.declared.epc.Epc.{Epc}
use Rattle.gs_epc.specs.Writes.{AppendsAs}
use Rattle.gs_epc.proofs.Rejections.{appended_to_none, rejected_to_none}
use Rattle.gs_epc.proofs.writer.write_level.Goals as goal

pub returns-in-Ok : goal.returns-in-Ok
returns-in-Ok c = appended_to_none _ _ _ _ _ _ c.new-text.ensures.items c.from_vec.ensures (rw c.lent-fields.ensures at c.in-Ok.ensures.written)

pub returns-in-Err : goal.returns-in-Err
returns-in-Err c =
    let appends = subst (λ (e : Epc). AppendsAs c.args.set.now c.args.level e c.new-text.result.items c.append_lent.new.out.items (Err c.in-Err.error)) c.lent-fields.ensures c.in-Err.ensures.written in
    rejected_to_none _ _ _ _ _ c.in-Err.error appends
