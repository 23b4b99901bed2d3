use Rattle.gs_chars.proofs.TruthsAndLists.{read_at}
use Rattle.gs_links.proofs.NumberLemmas.{numbered_more}
use Rattle.gs_links.proofs.ranges.Numbers.of.Goals as goal

pub loop-k-preserved : goal.loop-k-preserved
loop-k-preserved c =
    let range = c.index-ranges-k.result in
    let at = read_at c.args.ranges.now c.loop-k.k range c.loop-k-test.true c.index-ranges-k.is in
    let put = rw (c.in_ok-to_ascii_lowercase.ensures.ok, c.as_bytes.ensures) at c.in_ok-put.ensures.put in
    numbered_more c.loop-k.numbers c.put.new.self c.args.ranges.now c.loop-k.k range at c.in_ok-put.ensures.lower put c.loop-k.invariant
