use Rattle.std.proofs.Common.{◌≡◌, ℕ, ◌+◌, ◌*◌, ◌≤◌, true, eqb, length, Some, refl, sym, ap, arith}
use Rattle.std.proofs.lemmas.Bool.Decides.{nat_tests}
use Rattle.gs_ai.specs.declared.row.AiRow.{AiRow}
use Rattle.gs_ai.specs.PredefinedLengths.{predefined_length}
use Rattle.gs_ai.specs.Tables.{keeps_predefined}
use Rattle.gs_ai.specs.Values.{greatest_of, least_of}
use Rattle.gs_ai.proofs.RowLemmas.{row_code, row_parts, few, listed, code_short, small_parts}
use Rattle.gs_ai.proofs.rules.keeps_predefined.Goals as goal

pub overflow_add-result : goal.overflow_add-result
overflow_add-result c =
    let row = c.args.row.now in
    let parts = row_parts row c.requires in
    let few = few row.parts parts in
    let small = small_parts row.parts (listed row.parts parts) in
    let short = code_short row.code (row_code row c.requires) in
    let greatest : c.greatest_length_of-greatest.result ≤ 90 * length row.parts = rw (c.greatest_length_of-greatest.ensures, c.items-parts.ensures) small in
    let code : length c.as_bytes-code.result.now ≤ 4 = rw c.as_bytes-code.ensures short in
    omega arith

same_number : (n : ℕ) → eqb n n ≡ true
same_number n = grind (arith, nat_tests)

one_length : (row : AiRow) (code least greatest n : ℕ) → code ≡ length row.code → least ≡ least_of row.parts → greatest ≡ greatest_of row.parts →
    predefined_length row.code ≡ Some n → least ≡ greatest → eqb (code + greatest) n ≡ keeps_predefined row
unfolding keeps_predefined
one_length row code least greatest n e l g p same =
    let equal : eqb (least_of row.parts) (greatest_of row.parts) ≡ true = rw (← l, ← g, same) (same_number greatest) in
    rw (p, equal, e, g) refl

pub returns-then-least_length_of-greatest : goal.returns-then-least_length_of-greatest
returns-then-least_length_of-greatest c =
    let row = c.args.row.now in
    let length_of = rw c.as_bytes-code.ensures at c.in-Some.ensures in
    one_length row (length c.as_bytes-code.result.now) c.least_length_of.result c.greatest_length_of-greatest.result c.in-Some.n
    (ap length c.as_bytes-code.ensures)
    (rw c.items-parts.ensures at c.least_length_of.ensures) (rw c.items-parts.ensures at c.greatest_length_of-greatest.ensures)
    (sym length_of) c.if-least_length_of-greatest.true
