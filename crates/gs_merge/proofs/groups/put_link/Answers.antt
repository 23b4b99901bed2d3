use Rattle.gs_merge.proofs.GroupLemmas.{put_seen}
use Rattle.gs_merge.proofs.groups.put_link.Goals as goal

pub returns-clause-group : goal.returns-clause-group
returns-clause-group c q =
    put_seen (λ g. g.items) c.args.text q c.args.groups.now.entries c.take_group-group.new.groups.entries c.insert.new.self.entries c.push.new.self _ c.args.link
    (c.in_ok-insert.ensures.updates.0 q) (c.take_group-group.ensures.others q) (rw c.take_group-group.ensures.group at c.in_ok-push.ensures.items)
