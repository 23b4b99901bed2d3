use Rattle.std.proofs.Common.{take}
use Rattle.gs_ident.specs.Keys.{AreKeys}
use Rattle.gs_ident.proofs.maker.keys_among.Given as goal

-- the keys among the pairs so far
abbrev pub invariant-loop-place : goal.invariant-loop-place
invariant-loop-place l = AreKeys l.table (take l.place l.pairs) l.keys
