use Rattle.std.proofs.Common.{inr}
use Rattle.std.proofs.lemmas.Result.{err_from_is_err_and}
use Rattle.gs_tables.proofs.SetLemmas.{sound}
use Rattle.gs_tables.proofs.rules.judged_parts.Goals as goal

pub returns-in_err-levels : goal.returns-in_err-levels
returns-in_err-levels c =
    let p = err_from_is_err_and c.from_residual.result c.from_residual.ensures.1 in
    rw (p.1, p.2) (rw c.items.ensures at c.in_err-levels.ensures)

pub make_kinds-requires : goal.make_kinds-requires
make_kinds-requires c =
    (sound c.args.ais.now c.args.kinds c.args.options.binary c.args.options.tag c.args.options.pure (rw c.items.ensures at c.in_ok-levels.ensures.0)).kinds_kept

pub returns-in_err-kinds : goal.returns-in_err-kinds
returns-in_err-kinds c =
    let p = err_from_is_err_and c.from_residual-in_err-kinds.result c.from_residual-in_err-kinds.ensures.1 in
    rw (p.1, p.2) (inr (rw c.items.ensures at c.in_ok-levels.ensures.0, tt))

pub returns : goal.returns
returns c =
    let levels = rw c.items.ensures at c.in_ok-levels.ensures in
    (levels.0, levels.1, (c.in_ok-kinds.ensures, levels.2))
