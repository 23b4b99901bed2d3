use Rattle.gs_linktext.proofs.AttrLemmas.{entries_more}
use Rattle.gs_linktext.proofs.attrs.attrs_of_groups.Goals as goal

pub loop-name-preserved : goal.loop-name-preserved
loop-name-preserved c =
    entries_more c.loop-name.groups.entries c.pop_first.new.self.entries c.in-Some.name c.in-Some.values c.loop-name.attrs.items c.push_attr.new.attrs.items _ c.loop-name.invariant c.in-Some.ensures.removal (rw c.items.ensures at c.in_ok-push_attr.ensures)
