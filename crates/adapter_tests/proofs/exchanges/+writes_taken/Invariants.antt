use Rattle.adapter_tests.proofs.exchanges.+writes_taken.Given as goal

-- the number of calls that are left
abbrev pub decreases-writes_taken : goal.decreases-writes_taken
decreases-writes_taken g l = l.most
