use Rattle.std.proofs.Common.{arith, ◌<◌}
use Rattle.gs_ident.proofs.ValueEscapes.{unescaped_at}
use Rattle.gs_ident.proofs.spelling.is_unescaped.Goals as goal

pub returns : goal.returns
returns c =
    let small : c.args.c < 256 = omega arith in
    rw c.from.ensures (unescaped_at c.args.c small)
