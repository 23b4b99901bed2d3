use Rattle.std.proofs.Common.{◌≡◌, ◌∙◌, ap, map, rules}
use Rattle.std.proofs.lemmas.Map.Iter.{iter_end}
use Rattle.gs_merge.specs.Groups.{entry_seen}
use Rattle.gs_merge.proofs.GroupLemmas.{all_yielded, made_relation, named_more, relations_made}
use Rattle.gs_merge.proofs.merger.relations_of.Goals as goal

pub loop-entry-preserved : goal.loop-entry-preserved
loop-entry-preserved c =
    named_more made_relation (entry_seen (λ g. g.items)) c.loop-entry.yielded c.in-Some.entry c.loop-entry.relations.items c.push_relation.new.relations.items (made_relation (c.in-Some.entry.0, c.as_slice.result.now)) c.loop-entry.invariant
    (ap (λ links. made_relation (c.in-Some.entry.0, links)) c.as_slice.ensures.value) c.in_ok-push_relation.ensures

pub returns : goal.returns
returns c =
    let whole : map (λ entry. entry) c.loop-entry.yielded ≡ c.in_ok-groups.groups.entries = search (rules, iter_end) in
    let all = all_yielded c.loop-entry.yielded c.in_ok-groups.groups.entries whole in
    c.from_vec.ensures ∙ relations_made c.args.links.now (map (entry_seen (λ g. g.items)) c.loop-entry.yielded) c.loop-entry.relations.items
    (ap (map (entry_seen (λ g. g.items))) all ∙ c.in_ok-groups.ensures) c.loop-entry.invariant
