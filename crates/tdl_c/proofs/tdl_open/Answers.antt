use Rattle.std.proofs.Common.{refl, inr}
use Rattle.tdl_session.specs.Openings.{IsOpened}
use Rattle.tdl_c.proofs.OpeningLemmas.{unboxed}
use Rattle.tdl_c.proofs.tdl_open.Goals as goal

pub returns-in-Err : goal.returns-in-Err
returns-in-Err c =
    let a = c.args in
    let P = IsOpened a.choice.now a.encoding.now a.stem.now a.tables.now a.prefixes.now in
    inr (c.in-Err.why, refl, unboxed P tt c.open-opened.result c.in-Err.why c.open-opened.ensures c.in-Err.ensures, c.tell.ensures)
