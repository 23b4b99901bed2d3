use Rattle.serde_json.specs.View.{view}
use Rattle.gs_tables_document.proofs.ItemNames.{text_by_digits, text_by_esc, text_by_int, text_by_lit, text_by_none, text_by_pad}
use Rattle.gs_tables_document.proofs.items.read_text_item.Goals as goal

pub returns-then-eq : goal.returns-then-eq
returns-then-eq c = text_by_lit c.args.name.now (view c.args.item.now) c.read_literal.result (rw c.as_slice.ensures at c.if-eq.ensures) c.read_literal.ensures

pub returns-then-eq-2 : goal.returns-then-eq-2
returns-then-eq-2 c = text_by_pad c.args.name.now (view c.args.item.now) c.found.result (rw c.as_slice.ensures at c.if-eq.ensures)
    (rw c.as_slice-else-eq.ensures at c.if-eq-2.ensures) (rw c.read_pad.ensures at c.found.ensures)

pub returns-then-eq-3 : goal.returns-then-eq-3
returns-then-eq-3 c = text_by_int c.args.name.now (view c.args.item.now) c.found-then-eq-3.result (rw c.as_slice.ensures at c.if-eq.ensures)
    (rw c.as_slice-else-eq.ensures at c.if-eq-2.ensures) (rw c.as_slice-else-eq-2.ensures at c.if-eq-3.ensures)
    (rw c.read_int.ensures at c.found-then-eq-3.ensures)

pub returns-then-eq-4 : goal.returns-then-eq-4
returns-then-eq-4 c = text_by_esc c.args.name.now (view c.args.item.now) c.found-then-eq-4.result (rw c.as_slice.ensures at c.if-eq.ensures)
    (rw c.as_slice-else-eq.ensures at c.if-eq-2.ensures) (rw c.as_slice-else-eq-2.ensures at c.if-eq-3.ensures)
    (rw c.as_slice-else-eq-3.ensures at c.if-eq-4.ensures) (rw c.read_esc.ensures at c.found-then-eq-4.ensures)

pub returns-then-eq-5 : goal.returns-then-eq-5
returns-then-eq-5 c = text_by_digits c.args.name.now (view c.args.item.now) c.found-then-eq-5.result
    (rw c.as_slice.ensures at c.if-eq.ensures) (rw c.as_slice-else-eq.ensures at c.if-eq-2.ensures)
    (rw c.as_slice-else-eq-2.ensures at c.if-eq-3.ensures) (rw c.as_slice-else-eq-3.ensures at c.if-eq-4.ensures)
    (rw c.as_slice-else-eq-4.ensures at c.if-eq-5.ensures) (rw c.read_digits.ensures at c.found-then-eq-5.ensures)

pub returns-else-eq-5 : goal.returns-else-eq-5
returns-else-eq-5 c = text_by_none c.args.name.now (view c.args.item.now) (rw c.as_slice.ensures at c.if-eq.ensures)
    (rw c.as_slice-else-eq.ensures at c.if-eq-2.ensures) (rw c.as_slice-else-eq-2.ensures at c.if-eq-3.ensures)
    (rw c.as_slice-else-eq-3.ensures at c.if-eq-4.ensures) (rw c.as_slice-else-eq-4.ensures at c.if-eq-5.ensures)
