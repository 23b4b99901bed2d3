use Rattle.std.proofs.Common.{◌≡◌, ◌++◌, length}
use Rattle.gs_linktext.specs.Groups.{attrs_of_entries}
use Rattle.gs_linktext.proofs.attrs.attrs_of_groups.Given as goal

-- the attributes so far, and those of the rest of the map
abbrev pub invariant-loop-name : goal.invariant-loop-name
invariant-loop-name l = l.attrs.items ++ attrs_of_entries l.groups.entries ≡ attrs_of_entries l.fn.groups.entries

abbrev pub decreases-loop-name : goal.decreases-loop-name
decreases-loop-name l = length l.groups.entries
