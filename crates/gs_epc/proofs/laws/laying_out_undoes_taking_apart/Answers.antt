use Rattle.gs_epc.proofs.LaidLaws.{laid_again}
use Rattle.gs_epc.proofs.laws.laying_out_undoes_taking_apart.Goals as goal

pub returns : goal.returns
returns c = λ kind n row identity epc named of made e. laid_again c.args.set.now kind n row identity epc c.ais.ensures.shaped
    (rw c.ais.ensures.rows at c.rows.ensures.kept) named of made e
