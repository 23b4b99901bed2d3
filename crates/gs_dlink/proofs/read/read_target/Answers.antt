use Rattle.gs_dlink.specs.Answers.{target_answer}
use Rattle.gs_dlink.proofs.JudgementLemmas.{answer_pairs}
use Rattle.gs_dlink.proofs.Targets.{target_in_order}
use Rattle.gs_dlink.proofs.read.read_target.Goals as goal

pub returns-clause-in_order : goal.returns-clause-in_order
returns-clause-in_order c = rw c.into_vec.ensures (target_in_order c.args.table.now 0 c.args.target.now c.in_ok-pairs.pairs (answer_pairs (target_answer c.args.table.now 0 c.args.target.now) c.in_ok-pairs.pairs c.in_ok-pairs.ensures))
