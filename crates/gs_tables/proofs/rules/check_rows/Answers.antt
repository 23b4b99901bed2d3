use Rattle.std.proofs.Common.{◌++◌}
use Rattle.std.specs.Prelude.{Err}
use Rattle.std.proofs.lemmas.Result.{err_from_is_err_and}
use Rattle.gs_tables_document.specs.declared.document.LevelName.TheVariants.{Binary, Tag, Pure}
use Rattle.gs_tables.specs.Tables.{kinds_rejections, level_rejections}
use Rattle.gs_tables.proofs.RejectionLists.{first_in_front, first_behind}
use Rattle.gs_tables.proofs.rules.check_rows.Goals as goal

pub returns-in_err-check_kinds : goal.returns-in_err-check_kinds
returns-in_err-check_kinds c =
    let p = err_from_is_err_and c.from_residual.result c.from_residual.ensures.1 in
    rw (p.1, p.2) (first_in_front (kinds_rejections c.args.ais.now c.args.kinds.now) ((level_rejections c.args.ais.now c.args.kinds.now Binary c.args.binary.now) ++ ((level_rejections c.args.ais.now c.args.kinds.now Tag c.args.tag.now) ++ (level_rejections c.args.ais.now c.args.kinds.now Pure c.args.pure.now))) c.in_err-check_kinds.field-0.0 c.in_err-check_kinds.ensures)

pub returns-in_err-check_level : goal.returns-in_err-check_level
returns-in_err-check_level c =
    let p = err_from_is_err_and c.from_residual-in_err-check_level.result c.from_residual-in_err-check_level.ensures.1 in
    rw (p.1, p.2) (first_behind (kinds_rejections c.args.ais.now c.args.kinds.now) ((level_rejections c.args.ais.now c.args.kinds.now Binary c.args.binary.now) ++ ((level_rejections c.args.ais.now c.args.kinds.now Tag c.args.tag.now) ++ (level_rejections c.args.ais.now c.args.kinds.now Pure c.args.pure.now))) (Err c.in_err-check_level.field-0.0) c.in_ok-check_kinds.ensures
    (first_in_front (level_rejections c.args.ais.now c.args.kinds.now Binary c.args.binary.now) ((level_rejections c.args.ais.now c.args.kinds.now Tag c.args.tag.now) ++ (level_rejections c.args.ais.now c.args.kinds.now Pure c.args.pure.now)) c.in_err-check_level.field-0.0 c.in_err-check_level.ensures))

pub returns-in_err-check_level-2 : goal.returns-in_err-check_level-2
returns-in_err-check_level-2 c =
    let p = err_from_is_err_and c.from_residual-in_err-check_level-2.result c.from_residual-in_err-check_level-2.ensures.1 in
    rw (p.1, p.2) (first_behind (kinds_rejections c.args.ais.now c.args.kinds.now) ((level_rejections c.args.ais.now c.args.kinds.now Binary c.args.binary.now) ++ ((level_rejections c.args.ais.now c.args.kinds.now Tag c.args.tag.now) ++ (level_rejections c.args.ais.now c.args.kinds.now Pure c.args.pure.now))) (Err c.in_err-check_level-2.field-0.0) c.in_ok-check_kinds.ensures
    (first_behind (level_rejections c.args.ais.now c.args.kinds.now Binary c.args.binary.now) ((level_rejections c.args.ais.now c.args.kinds.now Tag c.args.tag.now) ++ (level_rejections c.args.ais.now c.args.kinds.now Pure c.args.pure.now)) (Err c.in_err-check_level-2.field-0.0) c.in_ok-check_level.ensures
    (first_in_front (level_rejections c.args.ais.now c.args.kinds.now Tag c.args.tag.now) (level_rejections c.args.ais.now c.args.kinds.now Pure c.args.pure.now) c.in_err-check_level-2.field-0.0 c.in_err-check_level-2.ensures)))

pub returns : goal.returns
returns c = first_behind (kinds_rejections c.args.ais.now c.args.kinds.now)
    ((level_rejections c.args.ais.now c.args.kinds.now Binary c.args.binary.now) ++ ((level_rejections c.args.ais.now c.args.kinds.now Tag c.args.tag.now) ++ (level_rejections c.args.ais.now c.args.kinds.now Pure c.args.pure.now))) c.check_level-3.result c.in_ok-check_kinds.ensures
    (first_behind (level_rejections c.args.ais.now c.args.kinds.now Binary c.args.binary.now) ((level_rejections c.args.ais.now c.args.kinds.now Tag c.args.tag.now) ++ (level_rejections c.args.ais.now c.args.kinds.now Pure c.args.pure.now)) c.check_level-3.result c.in_ok-check_level.ensures
    (first_behind (level_rejections c.args.ais.now c.args.kinds.now Tag c.args.tag.now) (level_rejections c.args.ais.now c.args.kinds.now Pure c.args.pure.now) c.check_level-3.result c.in_ok-check_level-2.ensures
    c.check_level-3.ensures))
