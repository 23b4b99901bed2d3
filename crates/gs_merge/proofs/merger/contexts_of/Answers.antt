use Rattle.std.proofs.Common.{◌≡◌, ◌∙◌, ap, map, rules}
use Rattle.std.proofs.lemmas.Map.Iter.{iter_end}
use Rattle.gs_merge.specs.Groups.{entry_seen}
use Rattle.gs_merge.proofs.GroupLemmas.{all_yielded, contexts_made, made_context, named_more}
use Rattle.gs_merge.proofs.merger.contexts_of.Goals as goal

pub loop-entry-preserved : goal.loop-entry-preserved
loop-entry-preserved c =
    named_more made_context (entry_seen (λ g. g.items)) c.loop-entry.yielded c.in-Some.entry c.loop-entry.contexts.items c.push_context.new.contexts.items (made_context (c.in-Some.entry.0, c.as_slice.result.now)) c.loop-entry.invariant
    (ap (λ links. made_context (c.in-Some.entry.0, links)) c.as_slice.ensures.value) c.in_ok-push_context.ensures

pub returns : goal.returns
returns c =
    let whole : map (λ entry. entry) c.loop-entry.yielded ≡ c.in_ok-groups.groups.entries = search (rules, iter_end) in
    let all = all_yielded c.loop-entry.yielded c.in_ok-groups.groups.entries whole in
    c.from_vec.ensures ∙ contexts_made c.args.links.now (map (entry_seen (λ g. g.items)) c.loop-entry.yielded) c.loop-entry.contexts.items
    (ap (map (entry_seen (λ g. g.items))) all ∙ c.in_ok-groups.ensures) c.loop-entry.invariant
