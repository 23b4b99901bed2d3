use Rattle.std.proofs.lemmas.Result.{err_from_is_err_and}
use Rattle.gs_tables.proofs.JudgedLevels.{judged_rule, levels_rejected, set_judged}
use Rattle.gs_tables.proofs.SetLemmas.{ais_rejected, limit_rejected}
use Rattle.gs_tables.proofs.table_set.TableSet.of_rows.Goals as goal

pub returns-in_err-check_limits : goal.returns-in_err-check_limits
returns-in_err-check_limits c =
    let p = err_from_is_err_and c.from_residual.result c.from_residual.ensures.1 in
    rw (p.1, p.2) (judged_rule c.args.document c.in_err-check_limits.field-0.0 (limit_rejected c.args.document c.in_err-check_limits.field-0.0 c.in_err-check_limits.ensures))

pub returns-in_err-ais : goal.returns-in_err-ais
returns-in_err-ais c =
    let p = err_from_is_err_and c.from_residual-in_err-ais.result c.from_residual-in_err-ais.ensures.1 in
    rw (p.1, p.2) (judged_rule c.args.document c.in_err-ais.field-0.0 (ais_rejected c.args.document c.in_err-ais.field-0.0 c.in_ok-check_limits.ensures c.in_err-ais.ensures))

pub returns-in_err-kinds : goal.returns-in_err-kinds
returns-in_err-kinds c =
    let p = err_from_is_err_and c.from_residual-in_err-kinds.result c.from_residual-in_err-kinds.ensures.1 in
    rw (p.1, p.2) (levels_rejected c.args.document c.in_ok-ais.ais c.in_err-kinds.field-0.0 c.in_ok-check_limits.ensures c.in_ok-ais.ensures c.in_err-kinds.ensures)

pub returns-in_err-places : goal.returns-in_err-places
returns-in_err-places c =
    let p = err_from_is_err_and c.from_residual-in_err-places.result c.from_residual-in_err-places.ensures.1 in
    rw (p.1, p.2) tt

pub invariant_of-result : goal.invariant_of-result
invariant_of-result c =
    let made = c.in_ok-kinds.ensures in
    let judged = set_judged c.args.document c.in_ok-ais.ais c.in_ok-kinds.kinds c.in_ok-kinds.levels c.in_ok-check_limits.ensures c.in_ok-ais.ensures made.0 made.1 made.2.0 made.2.1 in
    (record { shaped = record { document = c.args.document; in_order = judged.0.0; made = judged.0.1 }; clear = judged.1 }, rw c.items.ensures at c.in_ok-places.ensures)

pub returns : goal.returns
returns c =
    let made = c.in_ok-kinds.ensures in
    set_judged c.args.document c.in_ok-ais.ais c.in_ok-kinds.kinds c.in_ok-kinds.levels c.in_ok-check_limits.ensures c.in_ok-ais.ensures made.0 made.1 made.2.0 made.2.1
