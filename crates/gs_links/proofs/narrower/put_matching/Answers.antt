use Rattle.std.proofs.Common.{length, sym}
use Rattle.gs_links.specs.Languages.{matches}
use Rattle.gs_links.proofs.IndexLemmas.{put_less, put_more}
use Rattle.gs_links.proofs.narrower.put_matching.Goals as goal

pub loop-number-preserved-then-not-matches : goal.loop-number-preserved-then-not-matches
loop-number-preserved-then-not-matches c =
    put_less c.args.links.now (matches c.args.range.now) c.args.numbers.now (length c.args.out.now) c.loop-number.number-index c.loop-number.count c.loop-number.out c.loop-number.invariant
    c.loop-number-test.true c.requires.known c.index-links-number.result c.index-links-number.is (sym c.if-not-matches.ensures)

pub loop-number-preserved : goal.loop-number-preserved
loop-number-preserved c =
    put_more c.args.links.now (matches c.args.range.now) c.args.numbers.now (length c.args.out.now) c.loop-number.number-index c.loop-number.count c.loop-number.out c.loop-number.invariant
    c.loop-number-test.true c.requires.known c.index-links-number.result c.index-links-number.is c.requires.room (sym c.if-not-matches.ensures)
