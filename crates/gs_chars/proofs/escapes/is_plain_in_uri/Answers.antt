use Rattle.std.proofs.Common.{arith, ◌<◌}
use Rattle.gs_chars.proofs.Sets.{plain_at}
use Rattle.gs_chars.proofs.escapes.is_plain_in_uri.Goals as goal

pub returns : goal.returns
returns c =
    let small : c.args.c < 256 = omega arith in
    rw c.from.ensures (plain_at c.args.c small)
