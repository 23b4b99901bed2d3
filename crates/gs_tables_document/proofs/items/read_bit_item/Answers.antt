use Rattle.serde_json.specs.View.{view}
use Rattle.gs_tables_document.proofs.ItemNames.{bit_by_ascii7, bit_by_fill, bit_by_lit, bit_by_none, bit_by_num, bit_by_numpad, bit_by_numstr}
use Rattle.gs_tables_document.proofs.items.read_bit_item.Goals as goal

pub returns-then-eq : goal.returns-then-eq
returns-then-eq c = bit_by_lit c.args.name.now (view c.args.item.now) c.read_bits.result (rw c.as_slice.ensures at c.if-eq.ensures) c.read_bits.ensures

pub returns-then-eq-2 : goal.returns-then-eq-2
returns-then-eq-2 c = bit_by_numpad c.args.name.now (view c.args.item.now) c.found.result (rw c.as_slice.ensures at c.if-eq.ensures)
    (rw c.as_slice-else-eq.ensures at c.if-eq-2.ensures) (rw c.read_numpad.ensures at c.found.ensures)

pub returns-then-eq-3 : goal.returns-then-eq-3
returns-then-eq-3 c = bit_by_num c.args.name.now (view c.args.item.now) c.found-then-eq-3.result (rw c.as_slice.ensures at c.if-eq.ensures)
    (rw c.as_slice-else-eq.ensures at c.if-eq-2.ensures) (rw c.as_slice-else-eq-2.ensures at c.if-eq-3.ensures)
    (rw c.read_num.ensures at c.found-then-eq-3.ensures)

pub returns-then-eq-4 : goal.returns-then-eq-4
returns-then-eq-4 c = bit_by_ascii7 c.args.name.now (view c.args.item.now) c.found-then-eq-4.result
    (rw c.as_slice.ensures at c.if-eq.ensures) (rw c.as_slice-else-eq.ensures at c.if-eq-2.ensures)
    (rw c.as_slice-else-eq-2.ensures at c.if-eq-3.ensures) (rw c.as_slice-else-eq-3.ensures at c.if-eq-4.ensures)
    (rw c.read_ascii7.ensures at c.found-then-eq-4.ensures)

pub returns-then-eq-5 : goal.returns-then-eq-5
returns-then-eq-5 c = bit_by_fill c.args.name.now (view c.args.item.now) c.found-then-eq-5.result (rw c.as_slice.ensures at c.if-eq.ensures)
    (rw c.as_slice-else-eq.ensures at c.if-eq-2.ensures) (rw c.as_slice-else-eq-2.ensures at c.if-eq-3.ensures)
    (rw c.as_slice-else-eq-3.ensures at c.if-eq-4.ensures) (rw c.as_slice-else-eq-4.ensures at c.if-eq-5.ensures)
    (rw c.read_fill.ensures at c.found-then-eq-5.ensures)

pub returns-then-eq-6 : goal.returns-then-eq-6
returns-then-eq-6 c = bit_by_numstr c.args.name.now (view c.args.item.now) c.found-then-eq-6.result
    (rw c.as_slice.ensures at c.if-eq.ensures) (rw c.as_slice-else-eq.ensures at c.if-eq-2.ensures)
    (rw c.as_slice-else-eq-2.ensures at c.if-eq-3.ensures) (rw c.as_slice-else-eq-3.ensures at c.if-eq-4.ensures)
    (rw c.as_slice-else-eq-4.ensures at c.if-eq-5.ensures) (rw c.as_slice-else-eq-5.ensures at c.if-eq-6.ensures)
    (rw c.read_numstr.ensures at c.found-then-eq-6.ensures)

pub returns-else-eq-6 : goal.returns-else-eq-6
returns-else-eq-6 c = bit_by_none c.args.name.now (view c.args.item.now) (rw c.as_slice.ensures at c.if-eq.ensures)
    (rw c.as_slice-else-eq.ensures at c.if-eq-2.ensures) (rw c.as_slice-else-eq-2.ensures at c.if-eq-3.ensures)
    (rw c.as_slice-else-eq-3.ensures at c.if-eq-4.ensures) (rw c.as_slice-else-eq-4.ensures at c.if-eq-5.ensures)
    (rw c.as_slice-else-eq-5.ensures at c.if-eq-6.ensures)
