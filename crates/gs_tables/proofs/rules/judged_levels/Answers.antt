use Rattle.std.proofs.Common.{inl, inr}
use Rattle.std.specs.Prelude.{Ok, Err}
use Rattle.std.proofs.lemmas.Result.{err_from_is_err_and}
use Rattle.gs_tables.proofs.JudgedLevels.{judged_made}
use Rattle.gs_tables.proofs.SetLemmas.{sound}
use Rattle.gs_tables.proofs.rules.judged_levels.Goals as goal

pub returns-in_err-check_rows : goal.returns-in_err-check_rows
returns-in_err-check_rows c =
    let p = err_from_is_err_and c.from_residual.result c.from_residual.ensures.1 in
    rw (p.1, p.2) (inl (rw (c.items.ensures, c.items-2.ensures, c.items-3.ensures) at c.in_err-check_rows.ensures))

pub make_levels-requires : goal.make_levels-requires
make_levels-requires c =
    let kept = sound c.args.ais.now c.args.kinds.now c.args.options.binary c.args.options.tag c.args.options.pure (rw (c.items.ensures, c.items-2.ensures, c.items-3.ensures) at c.in_ok-check_rows.ensures) in
    record { binary = kept.binary_kept; tag = kept.tag_kept; pure = kept.pure_kept }

pub returns-in_err-levels : goal.returns-in_err-levels
returns-in_err-levels c =
    let p = err_from_is_err_and c.from_residual-in_err-levels.result c.from_residual-in_err-levels.ensures.1 in
    rw (p.1, p.2) (inr (rw (c.items.ensures, c.items-2.ensures, c.items-3.ensures) at c.in_ok-check_rows.ensures, tt))

pub returns-in_err-judge_levels : goal.returns-in_err-judge_levels
returns-in_err-judge_levels c =
    let p = err_from_is_err_and c.from_residual-in_err-judge_levels.result c.from_residual-in_err-judge_levels.ensures.1 in
    let of_rows = c.in_ok-levels.ensures in
    rw (p.1, p.2) (inr (
      rw (c.items.ensures, c.items-2.ensures, c.items-3.ensures) at c.in_ok-check_rows.ensures,
      judged_made c.args.kinds.now c.args.options.binary c.args.options.tag c.args.options.pure c.in_ok-levels.levels (Err c.in_err-judge_levels.field-0.0)
          (of_rows.binary, of_rows.tag, of_rows.pure) c.in_err-judge_levels.ensures,
    ))

pub returns : goal.returns
returns c =
    let of_rows = c.in_ok-levels.ensures in (
      rw (c.items.ensures, c.items-2.ensures, c.items-3.ensures) at c.in_ok-check_rows.ensures,
      judged_made c.args.kinds.now c.args.options.binary c.args.options.tag c.args.options.pure c.in_ok-levels.levels (Ok tt)
          (of_rows.binary, of_rows.tag, of_rows.pure) c.in_ok-judge_levels.ensures,
      (of_rows.binary, of_rows.tag, of_rows.pure),
    )
