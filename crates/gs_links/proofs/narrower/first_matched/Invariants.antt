use Rattle.std.proofs.Common.{◌≤◌, length, take}
use Rattle.gs_links.specs.Languages.{NoneBefore, SomeAt}
use Rattle.gs_links.proofs.narrower.first_matched.Given as goal

abbrev pub invariant-loop-number : goal.invariant-loop-number
invariant-loop-number l = (l.first ≤ length l.ranges) × NoneBefore l.links (take l.number-index l.numbers) l.ranges l.first × SomeAt l.links
    (take l.number-index l.numbers) l.ranges l.first
