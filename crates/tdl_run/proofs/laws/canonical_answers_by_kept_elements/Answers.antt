use Rattle.tdl_run.proofs.CanonLaws.{kept_given}
use Rattle.tdl_run.proofs.laws.canonical_answers_by_kept_elements.Goals as goal

pub returns : goal.returns
returns c = kept_given
