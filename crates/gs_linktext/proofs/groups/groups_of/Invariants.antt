use Rattle.std.proofs.Common.{◌≡◌, ℕ, List, take}
use Rattle.std.specs.BTreeMap.{IsOrdered}
use Rattle.std.specs.Cmp.Lexicographic.{slice_cmp}
use Rattle.std.specs.Ordering.{nat_cmp}
use Rattle.gs_linktext.specs.Groups.{items_at}
use Rattle.gs_linktext.specs.Links.{values_of}
use Rattle.gs_linktext.proofs.groups.groups_of.Given as goal

abbrev pub invariant-loop-param : goal.invariant-loop-param
invariant-loop-param l = ((q : List ℕ) → items_at q l.groups ≡ values_of q (take l.param-index l.params)) × IsOrdered (slice_cmp nat_cmp) l.groups
