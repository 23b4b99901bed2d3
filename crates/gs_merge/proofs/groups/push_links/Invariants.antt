use Rattle.std.proofs.Common.{◌≡◌, ◌++◌, take, true}
use Rattle.std.specs.List.{list_all}
use Rattle.gs_links.specs.Shapes.{is_link}
use Rattle.gs_merge.specs.MergedDocuments.{with_relation}
use Rattle.gs_merge.proofs.groups.push_links.Given as goal

abbrev pub invariant-loop-i : goal.invariant-loop-i
invariant-loop-i l = (l.links.items ≡ l.initial.links.items ++ with_relation (take l.i l.store)) × (list_all is_link l.links.items ≡ true)
