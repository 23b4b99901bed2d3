use Rattle.gs_port_system.proofs.BudgetLemmas.{head_ends, never_long, reply_ends}
use Rattle.gs_port_system.proofs.laws.calls_end_in_time.Goals as goal

pub returns-clause-head : goal.returns-clause-head
returns-clause-head c before reads time ends = head_ends before reads time ends

pub returns-clause-reply : goal.returns-clause-reply
returns-clause-reply c before writes time ends = reply_ends before writes time ends

pub returns-clause-from_now : goal.returns-clause-from_now
returns-clause-from_now c before time earlier = never_long before time earlier
