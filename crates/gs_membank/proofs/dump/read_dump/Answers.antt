use Rattle.std.proofs.lemmas.Result.{err_from_is_err_and}
use Rattle.gs_tables_document.specs.declared.document.LevelName.TheVariants.{Binary}
use Rattle.gs_membank.proofs.FilterLemmas.{filter_said, one_in_bits}
use Rattle.gs_membank.proofs.HeadLemmas.{bank_read, head_long, never_hex, none_read}
use Rattle.gs_membank.proofs.dump.read_dump.Goals as goal

pub returns-in_err-word-clause-answer : goal.returns-in_err-word-clause-answer
returns-in_err-word-clause-answer c =
    let p = err_from_is_err_and c.from_residual.result c.from_residual.ensures.1 in
    rw (p.1, p.2) (c.in_err-word.ensures.rejected c.args.set.now)

pub split_at-requires : goal.split_at-requires
split_at-requires c = head_long c.args.text.now c.in_ok-word.word c.in_ok-word.ensures.word

pub unreachable-requires : goal.unreachable-requires
unreachable-requires c = never_hex c.args.set.now c.args.text.now c.split_at.result.1.now c.in_ok-word.word c.in-Err-Hex.field-0 c.in-Err-Hex.field-0-0 c.in_ok-word.ensures.word c.split_at.ensures.back c.in-Err-Hex.field-0-is c.in-Err-Hex.ensures.answer

pub returns-in-Ok-clause-answer : goal.returns-in-Ok-clause-answer
returns-in-Ok-clause-answer c = bank_read c.args.set.now c.args.text.now c.in_ok-word.word c.in-Ok.epc c.in_ok-word.ensures.word
    (rw c.split_at.ensures.back at c.in-Ok.ensures.answer)

pub returns-in-Ok-clause-filter : goal.returns-in-Ok-clause-filter
returns-in-Ok-clause-filter c = filter_said c.args.set.now Binary _ c.in-Ok.epc c.kinds.ensures.shaped one_in_bits c.in-Ok.ensures.answer.1

pub returns-in-Err-NoReading-clause-answer : goal.returns-in-Err-NoReading-clause-answer
returns-in-Err-NoReading-clause-answer c = none_read c.args.set.now c.args.text.now c.split_at.result.1.now c.in_ok-word.word c.in-Err-NoReading.field-0 c.in_ok-word.ensures.word c.split_at.ensures.back c.in-Err-NoReading.field-0-is c.in-Err-NoReading.ensures.answer
