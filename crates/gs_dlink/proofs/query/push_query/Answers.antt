use Rattle.std.proofs.Common.{◌+◌, ◌<◌, length, map, arith}
use Rattle.std.proofs.Common.{length-drop}
use Rattle.gs_dlink.specs.ValuesSupport.{written_of}
use Rattle.gs_dlink.proofs.CutLemmas.{query_ends, query_goes_on}
use Rattle.gs_dlink.proofs.query.push_query.Goals as goal

pub returns-then-end-rest-clause-pairs : goal.returns-then-end-rest-clause-pairs
returns-then-end-rest-clause-pairs c =
    query_ends _ (map written_of c.loop-at.pairs.items) (map written_of c.push_part.new.pairs.items) c.loop-at.at c.loop-at.rest.now c.part_len-end.result c.loop-at.invariant.all c.part_len-end.ensures.place c.in_ok-push_part.ensures.pairs c.if-end-rest.true

pub loop-at-preserved : goal.loop-at-preserved
loop-at-preserved c =
    let low : c.part_len-end.result < length c.loop-at.rest.now = let w = c.part_len-end.ensures.within in let other = c.if-end-rest.false in omega arith in
    record {
      all = rw c.after-rest.ensures (query_goes_on _ (map written_of c.loop-at.pairs.items) (map written_of c.push_part.new.pairs.items) c.loop-at.at c.loop-at.rest.now c.part_len-end.result c.loop-at.invariant.all c.part_len-end.ensures.place c.in_ok-push_part.ensures.pairs low);
      within = rw c.after-rest.ensures (let w = c.loop-at.invariant.within in omega (arith, length-drop (c.part_len-end.result + 1) c.loop-at.rest.now));
      placed = c.in_ok-push_part.ensures.placed;
    }
