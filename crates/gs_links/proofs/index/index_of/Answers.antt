use Rattle.gs_chars.proofs.TruthsAndLists.{read_at}
use Rattle.gs_links.proofs.IndexLemmas.{index_more}
use Rattle.gs_links.proofs.index.index_of.Goals as goal

pub loop-i-preserved : goal.loop-i-preserved
loop-i-preserved c =
    let at = read_at c.args.links.now c.loop-i.i c.index-links-i.result c.loop-i-test.true c.index-links-i.is in
    index_more c.loop-i.index c.push.new.self c.args.links.now c.loop-i.i c.index-links-i.result c.number_of.result at c.number_of.ensures c.loop-i.invariant c.in_ok-push.ensures
