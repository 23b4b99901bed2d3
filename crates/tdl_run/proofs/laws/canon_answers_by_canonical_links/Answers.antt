use Rattle.tdl_run.proofs.CanonLaws.{canon_given, canon_lines}
use Rattle.tdl_run.proofs.laws.canon_answers_by_canonical_links.Goals as goal

pub returns-clause-canonical : goal.returns-clause-canonical
returns-clause-canonical c = canon_lines

pub returns-clause-headline : goal.returns-clause-headline
returns-clause-headline c = canon_given
