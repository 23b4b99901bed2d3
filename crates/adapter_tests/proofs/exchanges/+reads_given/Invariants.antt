use Rattle.adapter_tests.proofs.exchanges.+reads_given.Given as goal

-- the number of calls that are left
abbrev pub decreases-reads_given : goal.decreases-reads_given
decreases-reads_given g l = l.most
