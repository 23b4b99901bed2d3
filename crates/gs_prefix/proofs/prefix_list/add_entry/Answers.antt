use Rattle.std.proofs.Common.{◌≤◌, arith, inl, inr, refl}
use Rattle.std.proofs.lemmas.Result.{err_from_is_err_and}
use Rattle.gs_prefix.proofs.RejectionLemmas.{kept}
use Rattle.gs_prefix.proofs.prefix_list.add_entry.Goals as goal

pub overflow_cast-entry : goal.overflow_cast-entry
overflow_cast-entry c =
    let k = kept c.args.index.now c.args.i c.args.entry.now c.in_ok-check_entry.ensures in
    let short : c.args.entry.now.length ≤ 12 = k.short in
    omega arith

pub push-requires : goal.push-requires
push-requires c = let k = kept c.args.index.now c.args.i c.args.entry.now c.in_ok-check_entry.ensures in rw c.as_bytes.ensures k.fresh

pub returns : goal.returns
returns c = (inr c.in_ok-check_entry.ensures, rw c.as_bytes.ensures at c.in_ok-push.ensures)

pub returns-in_err-check_entry : goal.returns-in_err-check_entry
returns-in_err-check_entry c =
    let p = err_from_is_err_and c.from_residual.result c.from_residual.ensures.1 in
    rw (p.1, p.2) (inr c.in_err-check_entry.ensures, tt)

pub returns-in_err-push : goal.returns-in_err-push
returns-in_err-push c =
    let p = err_from_is_err_and c.from_residual-in_err-push.result c.from_residual-in_err-push.ensures.1 in
    rw (p.1, p.2) (inl refl, tt)
