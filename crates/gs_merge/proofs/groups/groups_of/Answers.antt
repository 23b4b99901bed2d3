use Rattle.std.proofs.Common.{◌∙◌, ap}
use Rattle.std.specs.Prelude.{option_map}
use Rattle.std.proofs.lemmas.List.{take_all}
use Rattle.gs_chars.proofs.TruthsAndLists.{read_at}
use Rattle.gs_merge.specs.Groups.{found_at, key_of}
use Rattle.gs_merge.proofs.GroupLemmas.{groups_are, groups_more}
use Rattle.gs_merge.proofs.groups.groups_of.Goals as goal

pub loop-link-preserved : goal.loop-link-preserved
loop-link-preserved c =
    let at = read_at c.args.links.now c.loop-link.link-index c.link-item.result c.loop-link-test.true c.link-item.is in
    let own = c.in_ok-text.ensures ∙ ap (key_of c.args.by) c.link.ensures.same in
    let put = rw c.again.ensures at c.in_ok-put_link.ensures.group in (
      c.in_ok-put_link.ensures.ordered,
      groups_more c.args.by c.args.links.now c.loop-link.link-index c.link-item.result c.in_ok-text.text
          (λ q. option_map (λ g. g.items) (found_at c.loop-link.groups.entries q))
          (λ q. option_map (λ g. g.items) (found_at c.put_link.new.groups.entries q)) at own
          c.loop-link.invariant.1 put,
    )

pub returns : goal.returns
returns c =
    let all = take_all c.loop-link.link-index c.args.links.now c.loop-link-test.false in
    groups_are (λ g. g.items) c.args.by c.args.links.now c.loop-link.groups.entries c.loop-link.invariant.0 (rw all at c.loop-link.invariant.1)
