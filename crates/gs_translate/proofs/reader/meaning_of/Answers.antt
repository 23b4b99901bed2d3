use Rattle.std.proofs.Common.{◌∙◌}
use Rattle.gs_translate.proofs.EpcTexts.{meaning_made}
use Rattle.gs_translate.proofs.reader.meaning_of.Goals as goal

pub returns-clause-meaning : goal.returns-clause-meaning
returns-clause-meaning c =
    meaning_made c.args.set.now _ c.args.reading.now c.in_ok-identity.identity _
    (c.lent.view_is ∙ c.epc-lent.ensures) c.in_ok-from_bytes.ensures (rw c.in_ok-identity.ensures c.in_ok-laid.ensures.laid)
