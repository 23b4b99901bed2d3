use Rattle.std.proofs.Common.{take}
use Rattle.gs_linkset.specs.WrittenTokens.{Adds, members_tokens}
use Rattle.gs_linkset.proofs.writer.put_members.Given as goal

abbrev pub invariant-loop-thing : goal.invariant-loop-thing
invariant-loop-thing g l = Adds l.fn.out l.out (members_tokens g.T.Member.key_of g.T.ToJson.tree (take l.thing-index l.things))
