use Rattle.std.proofs.Common.{◌≡◌, take}
use Rattle.std.specs.Prelude.{fold}
use Rattle.gs_links.specs.Index.{number_with}
use Rattle.gs_links.proofs.index.number_of.Given as goal

abbrev pub invariant-loop-pair : goal.invariant-loop-pair
invariant-loop-pair l = l.number ≡ fold number_with (number_with 14695981039346656037 l.anchor.key) (take l.pair-index l.pair-items)
