use Rattle.gs_class.proofs.class_set.judge_level.Goals as goal

pub returns-in-Some : goal.returns-in-Some
returns-in-Some c = rw c.in-Some.is at c.in_ok-first_share.ensures
