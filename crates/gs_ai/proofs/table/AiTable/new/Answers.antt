use Rattle.gs_ai.proofs.RuleLemmas.{rules_kept}
use Rattle.gs_ai.proofs.table.AiTable.new.Goals as goal

pub invariant_of-result : goal.invariant_of-result
invariant_of-result c =
    let errorless = rw c.as_slice.ensures.value at c.in_ok-check_rows.ensures in
    let starts = rw c.as_slice-2.ensures.value at c.in-Ok.ensures in
    rw (c.from_vec.ensures, c.from_vec-2.ensures) (rules_kept c.args.rows.items errorless, starts)
