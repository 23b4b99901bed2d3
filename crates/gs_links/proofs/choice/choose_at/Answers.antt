use Rattle.std.proofs.Common.{length, ap, ◌∙◌, arith}
use Rattle.gs_links.proofs.IndexLemmas.{listed_chosen, listed_few, listed_within}
use Rattle.gs_links.proofs.choice.choose_at.Goals as goal

pub put_chosen-count-requires-clause-known : goal.put_chosen-count-requires-clause-known
put_chosen-count-requires-clause-known c = listed_within c.args.index.now c.args.links.now c.requires.index c.args.number c.list.result.now c.list.ensures

pub put_chosen-count-requires-clause-room : goal.put_chosen-count-requires-clause-room
put_chosen-count-requires-clause-room c =
    let few = listed_few c.args.index.now c.args.links.now c.requires.index c.args.number c.list.result.now c.list.ensures in
    omega (arith, few, c.requires.room)

pub returns-clause-count : goal.returns-clause-count
returns-clause-count c =
    c.put_chosen-count.ensures.count ∙ ap length (listed_chosen c.args.index.now c.args.links.now c.requires.index c.args.number c.list.result.now c.list.ensures c.args.identity.now c.args.want c.args.depth c.requires.number)

pub returns-clause-numbers : goal.returns-clause-numbers
returns-clause-numbers c =
    c.put_chosen-count.ensures.numbers ∙ listed_chosen c.args.index.now c.args.links.now c.requires.index c.args.number c.list.result.now c.list.ensures c.args.identity.now c.args.want c.args.depth c.requires.number
