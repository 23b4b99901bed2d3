use Rattle.std.proofs.Common.{refl}
use Rattle.std.proofs.lemmas.Result.{err_from_is_err_and}
use Rattle.gs_membank.specs.declared.error.DumpFault.TheVariants.{Memory}
use Rattle.gs_membank.specs.declared.error.DumpWriteFault.TheVariants as dump_write
use Rattle.gs_membank.specs.Answers.{ReadsDump, ShowsDump}
use Rattle.gs_translate.specs.Meanings.{short}
use Rattle.gs_translate.specs.Steps.{goes_on, rejects}
use Rattle.gs_translate.proofs.StepLaws.{unless_map}
use Rattle.tdl_answers.specs.Reasons.{dump_reason, dump_write_reason}
use Rattle.tdl_answers.proofs.StepLemmas.{step_answers}
use Rattle.tdl_answers.proofs.dump_lines.shown_text.Goals as goal

pub returns-in_err-dump : goal.returns-in_err-dump
returns-in_err-dump c =
    let p = err_from_is_err_and c.from_residual.result c.from_residual.ensures.1 in
    let first = step_answers Memory dump_reason refl (ReadsDump c.args.set.now c.args.text.now) c.read_dump.result _ c.in_err-dump.ensures.cases c.read_dump.ensures.answer in
    rw (p.1, p.2) (λ known. short c.if-text-gt-LONGEST_TEXT.false (rejects c.in_err-dump.field-0.0 (first known) refl))

pub returns : goal.returns
returns c =
    let first = step_answers Memory dump_reason refl (ReadsDump c.args.set.now c.args.text.now) c.read_dump.result _ c.in_ok-dump.ensures.cases c.read_dump.ensures.answer in
    let second = step_answers dump_write.Memory dump_write_reason refl (ShowsDump c.args.set.now c.in_ok-dump.dump) c.show_dump.result c.map_err-2.result c.map_err-2.ensures.cases c.show_dump.ensures in
    unless_map c.map_err-2.result (λ said. short c.if-text-gt-LONGEST_TEXT.false (goes_on c.in_ok-dump.dump first said)) second
