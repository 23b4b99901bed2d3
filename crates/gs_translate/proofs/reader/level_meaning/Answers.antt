use Rattle.std.proofs.lemmas.Result.{err_from_is_err_and}
use Rattle.gs_translate.proofs.EpcTexts.{epc_means, none_means}
use Rattle.gs_translate.proofs.reader.level_meaning.Goals as goal

pub returns-clause-meaning : goal.returns-clause-meaning
returns-clause-meaning c = epc_means _ _ _ _ c.in_ok-reading.ensures.answer c.in_ok-meaning_of.ensures.meaning

pub returns-in_err-reading-clause-meaning : goal.returns-in_err-reading-clause-meaning
returns-in_err-reading-clause-meaning c =
    let p = err_from_is_err_and c.from_residual.result c.from_residual.ensures.1 in
    rw (p.1, p.2) (none_means _ _ _ c.in_err-reading.ensures.answer)
