use Rattle.std.proofs.Common.{◌≡◌, take}
use Rattle.gs_links.specs.Index.{hash_with}
use Rattle.gs_links.proofs.index.hash_with.Given as goal

abbrev pub invariant-loop-byte : goal.invariant-loop-byte
invariant-loop-byte l = l.hash ≡ hash_with l.before (take l.byte-index l.bytes)
