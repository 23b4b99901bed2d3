use Rattle.std.proofs.Common.{refl, sym}
use Rattle.std.proofs.lemmas.Result.{err_from_is_err_and}
use Rattle.gs_bits.specs.HexText.{bits_of_hex}
use Rattle.gs_epc.proofs.ReadingFacts.{is_hex}
use Rattle.gs_membank.specs.Banks.{BeginsWith}
use Rattle.gs_membank.proofs.HeadLemmas.{word_rejected}
use Rattle.gs_membank.proofs.dump.read_control_word.Goals as goal

pub returns-in_err-check_word-clause-rejected : goal.returns-in_err-check_word-clause-rejected
returns-in_err-check_word-clause-rejected c =
    let p = err_from_is_err_and c.from_residual.result c.from_residual.ensures.1 in
    rw (p.1, p.2) (λ set.
    let hex = is_hex _ _ _ refl c.in-Ok.ensures.odd c.in-Ok.ensures.full c.in-Ok.ensures.digits in
    let begins : BeginsWith (bits_of_hex c.args.text.now) c.in-Ok-take_word.word c.take_word.new.cursor = rw (c.cursor-cursor.ensures, c.in-Ok.ensures.bits) at c.in-Ok-take_word.ensures.word in
    word_rejected set c.args.text.now c.take_word.new.cursor c.in-Ok-take_word.word c.in_err-check_word.field-0.0 hex begins
    (c.in_err-check_word.ensures.rejected set c.take_word.new.cursor (sym c.left.ensures.count)))
