use Rattle.gs_grammar_level.proofs.Readers.{none_derives, one_derives}
use Rattle.gs_grammar_level.proofs.read.read_symbols.Goals as goal

pub returns-in-Ok-Some : goal.returns-in-Ok-Some
returns-in-Ok-Some c = one_derives _ _ _ _ c.requires (rw c.in-Ok-Some.field-0-is at c.in-Ok-Some.ensures.found)

pub returns-in-Ok-None : goal.returns-in-Ok-None
returns-in-Ok-None c = none_derives _ _ (rw c.in-Ok-None.field-0-is at c.in-Ok-None.ensures.none)
