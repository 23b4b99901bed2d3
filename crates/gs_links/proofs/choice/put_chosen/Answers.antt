use Rattle.std.proofs.Common.{length, sym}
use Rattle.gs_links.specs.Choices.{is_chosen}
use Rattle.gs_links.proofs.IndexLemmas.{put_less, put_more}
use Rattle.gs_links.proofs.choice.put_chosen.Goals as goal

pub loop-number-preserved-then-not-is_chosen : goal.loop-number-preserved-then-not-is_chosen
loop-number-preserved-then-not-is_chosen c =
    put_less c.args.links.now (is_chosen c.args.identity.now c.args.want c.args.depth) c.args.numbers.now (length c.args.out.now) c.loop-number.number-index c.loop-number.count c.loop-number.out c.loop-number.invariant
    c.loop-number-test.true c.requires.known c.index-links-number.result c.index-links-number.is (sym c.if-not-is_chosen.ensures)

pub loop-number-preserved : goal.loop-number-preserved
loop-number-preserved c =
    put_more c.args.links.now (is_chosen c.args.identity.now c.args.want c.args.depth) c.args.numbers.now (length c.args.out.now) c.loop-number.number-index c.loop-number.count c.loop-number.out c.loop-number.invariant
    c.loop-number-test.true c.requires.known c.index-links-number.result c.index-links-number.is c.requires.room (sym c.if-not-is_chosen.ensures)
