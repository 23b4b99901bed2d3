use Rattle.std.proofs.Common.{◌≡◌, take, true}
use Rattle.std.specs.List.{list_all}
use Rattle.gs_linkset.specs.LinkShapes.{is_target}
use Rattle.gs_merge.specs.Distinct.{distinct}
use Rattle.gs_merge.specs.Groups.{AreTextsOf}
use Rattle.gs_merge.specs.MergedDocuments.{targets_of}
use Rattle.gs_merge.proofs.merger.distinct_targets.Given as goal

abbrev pub invariant-loop-link : goal.invariant-loop-link
invariant-loop-link l = (l.targets.items ≡ distinct (targets_of (take l.link-index l.links))) × (list_all is_target l.targets.items ≡ true) × AreTextsOf l.texts.entries l.targets.items
