use Rattle.std.proofs.Common.{arith, ◌<◌}
use Rattle.gs_chars.proofs.Sets.{set82_at}
use Rattle.gs_chars.proofs.char_set.CharSet.holds.Goals as goal

pub returns-in-Set82 : goal.returns-in-Set82
returns-in-Set82 c =
    let small : c.args.c < 256 = omega arith in
    rw (c.in-Set82.is, c.from.ensures) (set82_at c.args.c small)
