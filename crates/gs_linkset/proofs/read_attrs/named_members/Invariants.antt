use Rattle.std.proofs.Common.{map}
use Rattle.serde_json.specs.View.{view}
use Rattle.gs_linkset.proofs.ReadLemmas.{Found}
use Rattle.gs_linkset.proofs.read_attrs.named_members.Given as goal

abbrev pub invariant-loop-i : goal.invariant-loop-i
invariant-loop-i g l = Found (g.M.ReadMember.errors l.object.place (view l.object.tree))
    (g.M.ReadMember.made (view l.object.tree)) g.M.Shaped.shape (map (λ name. name.now) l.names) l.all.items l.i
