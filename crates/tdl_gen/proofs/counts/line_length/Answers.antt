use Rattle.std.proofs.Common.{refl}
use Rattle.tdl_gen.proofs.counts.line_length.Goals as goal

pub returns : goal.returns
returns c = refl
