use Rattle.std.proofs.Common.{ap, arith, sym, ◌∙◌}
use Rattle.gs_ai.specs.declared.row.AiRow.{AiRow}
use Rattle.gs_ai.proofs.PlaceLemmas.{code_absent, code_by_length, code_here, code_nowhere, length_differs}
use Rattle.gs_ai.proofs.table.AiTable.find.Goals as goal
use Rattle.gs_chars.proofs.TruthsAndLists.{read_at}

pub returns-in_err-row-clause-row : goal.returns-in_err-row-clause-row
returns-in_err-row-clause-row c =
    let kept = rw c.self.view_is at c.self.invariant.0 in
    rw c.from_residual.ensures (code_nowhere c.args.self.now kept c.args.code.now c.in_err-row.ensures.row)

pub returns-then-as_bytes-code-clause-row : goal.returns-then-as_bytes-code-clause-row
returns-then-as_bytes-code-clause-row c =
    let kept = rw c.self.view_is at c.self.invariant.0 in
    let read = rw (c.items-rows.ensures, c.self.view_is) at c.index-rows-row.is in
    let at = read_at c.args.self.now c.in_ok-row.row c.index-rows-row.result c.in_ok-row.ensures.within read in
    let test = rw (c.as_bytes.ensures ∙ ap (λ (r : AiRow). r.code) (sym c.index-rows-row.is)) at c.if-as_bytes-code.true in
    code_here c.args.self.now kept c.args.code.now c.in_ok-row.row c.index-rows-row.result at c.in_ok-row.ensures.row
    (code_by_length c.args.self.now kept c.args.code.now c.in_ok-row.row c.index-rows-row.result at c.in_ok-row.ensures.row (omega (arith, test)))

pub returns-else-as_bytes-code-clause-row : goal.returns-else-as_bytes-code-clause-row
returns-else-as_bytes-code-clause-row c =
    let kept = rw c.self.view_is at c.self.invariant.0 in
    let read = rw (c.items-rows.ensures, c.self.view_is) at c.index-rows-row.is in
    let at = read_at c.args.self.now c.in_ok-row.row c.index-rows-row.result c.in_ok-row.ensures.within read in
    let test = rw (c.as_bytes.ensures ∙ ap (λ (r : AiRow). r.code) (sym c.index-rows-row.is)) at c.if-as_bytes-code.false in
    code_absent c.args.self.now kept c.args.code.now c.in_ok-row.row c.index-rows-row.result at c.in_ok-row.ensures.row
    (length_differs c.args.self.now kept c.args.code.now c.in_ok-row.row c.index-rows-row.result at c.in_ok-row.ensures.row (λ e. omega (arith, e, test)))
