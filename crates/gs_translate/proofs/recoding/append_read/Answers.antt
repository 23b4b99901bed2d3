use Rattle.std.proofs.lemmas.Result.{err_from_is_err_and}
use Rattle.gs_translate.proofs.EpcTexts.{fits_at}
use Rattle.gs_translate.proofs.RecodingLaws.{not_appended, translated}
use Rattle.gs_translate.proofs.recoding.append_read.Goals as goal

pub append_reading-requires-clause-given : goal.append_reading-requires-clause-given
append_reading-requires-clause-given c = fits_at c.args.set.now c.args.from c.args.text.now _ c.ais.ensures.shaped c.in_ok-reading.ensures.answer

pub returns-in_err-reading-clause-written : goal.returns-in_err-reading-clause-written
returns-in_err-reading-clause-written c = λ prefixes.
    let p = err_from_is_err_and c.from_residual.result c.from_residual.ensures.1 in
    rw (p.1, p.2) (not_appended c.args.set.now prefixes c.args.options.now c.args.from c.args.to c.args.text.now c.args.out.now.items _ c.requires.short c.in_err-reading.ensures.answer)

pub returns-clause-written : goal.returns-clause-written
returns-clause-written c = λ prefixes.
    translated c.args.set.now prefixes c.args.options.now c.args.from c.args.to c.args.text.now _ c.args.out.now.items c.append_reading.new.out.items c.append_reading.result c.ais.ensures.shaped c.requires.short c.in_ok-reading.ensures.answer c.in_ok-reading.ensures.of_set (c.append_reading.ensures.written prefixes)
