use Rattle.std.proofs.Common.{refl}
use Rattle.gs_epc.proofs.ReadingFacts.{hex_answer, is_hex}
use Rattle.gs_epc.proofs.reading.reading_of_digits.Goals as goal

pub returns-in-Ok-clause-answer : goal.returns-in-Ok-clause-answer
returns-in-Ok-clause-answer c =
    let is = is_hex _ _ _ refl c.in-Ok.ensures.odd c.in-Ok.ensures.full c.in-Ok.ensures.digits in
    hex_answer _ _ _ _ is c.in-Ok.ensures.bits (c.answer.ensures.says _ (rw c.level.ensures.rows at c.read_bits_within-reading.ensures))
