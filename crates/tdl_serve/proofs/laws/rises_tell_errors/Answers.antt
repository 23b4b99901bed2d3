use Rattle.tdl_serve.proofs.RiseLemmas.{rises}
use Rattle.tdl_serve.proofs.laws.rises_tell_errors.Goals as goal

pub returns : goal.returns
returns c site reads writes reads' writes' visits are low low' = let all = rises site reads writes reads' writes' visits are low low' in all.2
