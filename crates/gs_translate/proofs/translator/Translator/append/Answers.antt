use Rattle.std.proofs.Common.{arith, refl}
use Rattle.gs_translate.specs.declared.reason.Reason.TheVariants.{Long}
use Rattle.gs_translate.specs.Meanings.{too_long}
use Rattle.gs_translate.specs.Steps.{rejects}
use Rattle.gs_translate.proofs.translator.Translator.append.Goals as goal

pub returns-then-text-gt-LONGEST_TEXT-clause-written : goal.returns-then-text-gt-LONGEST_TEXT-clause-written
returns-then-text-gt-LONGEST_TEXT-clause-written c = λ known. (refl, rejects Long (too_long (omega arith) refl) refl)

pub returns-in-Hex-clause-written : goal.returns-in-Hex-clause-written
returns-in-Hex-clause-written c = rw (← c.self.view_is, c.in-Hex.is) (c.append_of_level.ensures.written c.self.inside.prefixes.now)

pub returns-in-Tag-clause-written : goal.returns-in-Tag-clause-written
returns-in-Tag-clause-written c = rw (← c.self.view_is, c.in-Tag.is) (c.append_of_level-in-Tag.ensures.written c.self.inside.prefixes.now)

pub returns-in-Pure-clause-written : goal.returns-in-Pure-clause-written
returns-in-Pure-clause-written c = rw (← c.self.view_is, c.in-Pure.is) (c.append_of_level-in-Pure.ensures.written c.self.inside.prefixes.now)
