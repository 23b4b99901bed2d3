use Rattle.std.proofs.Common.{◌≡◌, drop}
use Rattle.gs_linktext.specs.Links.{first_error}
use Rattle.gs_linktext.proofs.ReadLemmas.{AreCut}
use Rattle.gs_linktext.proofs.reader.read.Given as goal

abbrev pub invariant-loop-i : goal.invariant-loop-i
invariant-loop-i l = (first_error 0 l.written ≡ first_error l.i (drop l.i l.written)) × AreCut l.written l.i l.contexts.items
