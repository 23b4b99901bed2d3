use Rattle.std.proofs.Common.{◌∙◌, sym}
use Rattle.gs_epc.proofs.LaidLinks.{no_code, one_code}
use Rattle.gs_epc.proofs.layout.serial_code.Goals as goal

pub returns-then-stands_for_none : goal.returns-then-stands_for_none
returns-then-stands_for_none c =
    let ais = c.args.set.now.ais in
    let means = sym (c.stands_for_none.ensures ais c.in-Ai.code (c.none_of.ensures c.in-Ai.code c.in-Ai.is)) ∙ c.if-stands_for_none.true in
    rw c.in-Ai.is (no_code ais c.in-Ai.code c.args.serial.now means)

pub returns-else-stands_for_none : goal.returns-else-stands_for_none
returns-else-stands_for_none c =
    let ais = c.args.set.now.ais in
    let some = sym (c.stands_for_none.ensures ais c.in-Ai.code (c.none_of.ensures c.in-Ai.code c.in-Ai.is)) ∙ c.if-stands_for_none.false in
    rw c.in-Ai.is (one_code ais c.in-Ai.code c.args.serial.now c.as_bytes.result.now c.as_bytes.ensures some)
