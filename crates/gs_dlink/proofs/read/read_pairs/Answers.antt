use Rattle.std.proofs.lemmas.Result.{err_from_is_err_and}
use Rattle.gs_dlink.specs.ValuesSupport.{written_of}
use Rattle.gs_dlink.proofs.JudgementLemmas.{all_pairs, pair_more, pair_rejected}
use Rattle.gs_dlink.proofs.read.read_pairs.Goals as goal

pub returns-in_err-pair : goal.returns-in_err-pair
returns-in_err-pair c =
    let p = err_from_is_err_and c.from_residual.result c.from_residual.ensures.1 in
    rw (p.1, p.2) (pair_rejected c.args.table.now written_of c.args.written.now c.loop-pair.pair-index _ c.loop-pair.pairs.items c.loop-pair-test.true c.loop-pair.invariant c.in_err-pair.field-0.0 c.in_err-pair.ensures)

pub loop-pair-preserved : goal.loop-pair-preserved
loop-pair-preserved c = pair_more c.args.table.now written_of c.args.written.now c.loop-pair.pair-index _ c.loop-pair.pairs.items c.loop-pair-test.true c.loop-pair.invariant c.in_ok-pair.pair c.push.new.self.items c.in_ok-pair.ensures c.in-Ok-push.ensures.items

pub returns : goal.returns
returns c = rw c.from_vec.ensures (all_pairs c.args.table.now written_of c.args.written.now c.loop-pair.pair-index c.loop-pair.pairs.items c.loop-pair-test.false c.loop-pair.invariant)
