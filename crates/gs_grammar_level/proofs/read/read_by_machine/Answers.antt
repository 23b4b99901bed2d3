use Rattle.gs_grammar_level.proofs.Readers.{not_derived, cuts_derived}
use Rattle.gs_grammar_level.proofs.read.read_by_machine.Goals as goal

pub returns-in_default-clause-none : goal.returns-in_default-clause-none
returns-in_default-clause-none c = not_derived _ _ _ c.requires.rules c.requires.reads (rw c.in_default.is at c.in_ok-number.ensures.none)

pub values_of-requires-clause-derived : goal.values_of-requires-clause-derived
values_of-requires-clause-derived c = cuts_derived _ _ _ _ _ c.requires.rules c.requires.reads c.in_ok-cut_back.ensures c.as_slice.ensures.value
