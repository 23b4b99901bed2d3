use Rattle.gs_translate.proofs.StepLaws.{unappended}
use Rattle.gs_translate.proofs.words.append_number.Goals as goal

pub returns-in_err-text-clause-begun : goal.returns-in_err-text-clause-begun
returns-in_err-text-clause-begun c = unappended c.from_residual.result c.args.out.now.items
