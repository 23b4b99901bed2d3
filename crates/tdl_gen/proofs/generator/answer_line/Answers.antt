use Rattle.std.proofs.Common.{refl}
use Rattle.std.proofs.lemmas.Result.{err_from_is_err_and}
use Rattle.tdl_gen.proofs.AnswerLemmas.{answered_twice, rejected_first}
use Rattle.tdl_gen.proofs.generator.answer_line.Goals as goal

pub returns-in_err-hex : goal.returns-in_err-hex
returns-in_err-hex c =
    let p = err_from_is_err_and c.from_residual.result c.from_residual.ensures.1 in
    rw (p.1, p.2) (rejected_first c.args.by.set.now c.args.line.now c.in_err-hex.field-0.0 c.in_err-hex.ensures)

pub returns : goal.returns
returns c =
    answered_twice c.args.by.set.now _ c.args.line.now c.in_ok-hex.hex c.as_bytes.result.now c.translate_by-2.result c.as_bytes.ensures c.in_ok-hex.ensures c.translate_by-2.ensures refl
