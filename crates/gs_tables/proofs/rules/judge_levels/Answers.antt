use Rattle.std.specs.Prelude.{Result, Ok, Err}
use Rattle.std.proofs.lemmas.Result.{err_from_is_err_and}
use Rattle.gs_tables_document.specs.declared.error.LoadFault.{LoadFault}
use Rattle.gs_tables_document.specs.declared.error.LoadFault.TheVariants.{Json, Version, Limit, Ai, BadKind, BadItem, Mismatch, Duplicate, Ambiguous, Memory}
use Rattle.gs_tables_document.specs.declared.document.LevelName.{LevelName}
use Rattle.gs_tables_document.specs.declared.document.LevelName.TheVariants.{Binary, Tag, Pure}
use Rattle.gs_grammar.specs.Levels.{LevelForm}
use Rattle.gs_tables.specs.Judgements.{AreClear, AreClearBefore, IsClear}
use Rattle.gs_tables.specs.JudgedSupport.{AreJudged, IsLevelJudged, by_name}
use Rattle.gs_tables.proofs.rules.judge_levels.Goals as goal

stops_at : (levels : LevelName → LevelForm) (name : LevelName) (error : LoadFault) → AreClearBefore levels name
    → IsLevelJudged name (levels name) (Err error) → AreJudged levels (Err error)
stops_at levels name (Ambiguous other i j text) before h = record { before = rw h.0 before; share = rw h.0 h.1 }
stops_at levels name Memory before h = tt
stops_at levels name (Json error) before h = absurd h
stops_at levels name Version before h = absurd h
stops_at levels name (Limit limit) before h = absurd h
stops_at levels name (Ai error) before h = absurd h
stops_at levels name (BadKind i) before h = absurd h
stops_at levels name (BadItem level i k) before h = absurd h
stops_at levels name (Mismatch level i) before h = absurd h
stops_at levels name (Duplicate level j i) before h = absurd h

all_clear : (binary tag pure : LevelForm) → IsClear binary → IsClear tag → IsClear pure → AreClear (by_name binary tag pure)
all_clear binary tag pure b t p Binary = b
all_clear binary tag pure b t p Tag = t
all_clear binary tag pure b t p Pure = p

last_judged : (binary tag pure : LevelForm) (result : Result (Unit {0}) LoadFault) → IsClear binary → IsClear tag
    → IsLevelJudged Pure pure result → AreJudged (by_name binary tag pure) result
last_judged binary tag pure (Ok u) b t h = all_clear binary tag pure b t h
last_judged binary tag pure (Err error) b t h = stops_at (by_name binary tag pure) Pure error (b, t) h

pub returns-in_err-judge_level : goal.returns-in_err-judge_level
returns-in_err-judge_level c =
    let p = err_from_is_err_and c.from_residual.result c.from_residual.ensures.1 in
    rw (p.1, p.2) (stops_at (by_name c.args.binary.now c.args.tag.now c.args.pure.now) Binary c.in_err-judge_level.field-0.0 tt c.in_err-judge_level.ensures)

pub returns-in_err-judge_level-2 : goal.returns-in_err-judge_level-2
returns-in_err-judge_level-2 c =
    let p = err_from_is_err_and c.from_residual-in_err-judge_level-2.result c.from_residual-in_err-judge_level-2.ensures.1 in
    rw (p.1, p.2) (stops_at (by_name c.args.binary.now c.args.tag.now c.args.pure.now) Tag c.in_err-judge_level-2.field-0.0 c.in_ok-judge_level.ensures c.in_err-judge_level-2.ensures)

pub returns : goal.returns
returns c =
    last_judged c.args.binary.now c.args.tag.now c.args.pure.now c.judge_level-3.result c.in_ok-judge_level.ensures c.in_ok-judge_level-2.ensures c.judge_level-3.ensures
