use Rattle.std.proofs.Common.{take}
use Rattle.gs_linkset.specs.WrittenTokens.{Adds, item_tokens}
use Rattle.gs_linkset.proofs.writer.put_items.Given as goal

abbrev pub invariant-loop-thing : goal.invariant-loop-thing
invariant-loop-thing g l = Adds l.fn.out l.out (item_tokens g.T.ToJson.tree (take l.thing-index l.things))
