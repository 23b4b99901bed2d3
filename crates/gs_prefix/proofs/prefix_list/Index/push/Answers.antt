use Rattle.gs_prefix.proofs.FindLemmas.{added}
use Rattle.gs_prefix.proofs.prefix_list.Index.push.Goals as goal

pub returns : goal.returns
returns c = added (λ k. k.items) c.self.inside.lengths.entries c.insert.new.self.entries c.in_ok-from_slice.field-0 c.args.length c.args.self.now c.args.prefix.now c.in_ok-insert.ensures.entries c.in_ok-from_slice.ensures.items c.self.view_is c.requires
