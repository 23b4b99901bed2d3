use Rattle.std.proofs.Common.{length}
use Rattle.gs_element.specs.Joins.{Joined}
use Rattle.gs_element.specs.Raw.{body_of, IsRawElement}
use Rattle.gs_element.proofs.JoinLemmas.{Reaches}
use Rattle.gs_element.proofs.raw.read_raw.Given as goal

-- the pairs so far are joined to the text that was read, and every longer join goes on from there
abbrev pub invariant-loop-rest : goal.invariant-loop-rest
invariant-loop-rest l = record {
  joined : Joined (IsRawElement l.table) l.pairs.items (body_of l.text) l.rest;
  reaches : Reaches (IsRawElement l.table) (body_of l.text) l.rest;
}

abbrev pub decreases-loop-rest : goal.decreases-loop-rest
decreases-loop-rest l = length l.rest
