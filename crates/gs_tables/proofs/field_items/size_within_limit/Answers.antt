use Rattle.std.proofs.Common.{arith}
use Rattle.gs_grammar.specs.Limits.{most_symbols}
use Rattle.gs_tables.proofs.FoundItems.{size_passed, size_next, size_same}
use Rattle.gs_tables.proofs.field_items.size_within_limit.Goals as goal
use Rattle.gs_tables.proofs.field_items.size_within_limit.Goals.{in-Some+else-size-gt-MOST_SYMBOLS, in_default}

pub returns-then-size-gt-MOST_SYMBOLS : goal.returns-then-size-gt-MOST_SYMBOLS
returns-then-size-gt-MOST_SYMBOLS c =
    size_passed c.args.items.now c.loop-entry.entry-index c.entry-item.result
    (c.in-Some.field-0-0, c.in-Some.item) most_symbols c.loop-entry-test.true c.entry-item.is c.in-Some.is (omega arith)

pub loop-entry-preserved : goal.loop-entry-preserved
loop-entry-preserved c = elim c.match-entry.branch [
  | in-Some+else-size-gt-MOST_SYMBOLS w ↦
      let next = size_next c.args.items.now c.loop-entry.entry-index c.entry-item.result (w.in-Some.field-0-0, w.in-Some.item) c.loop-entry-test.true c.entry-item.is w.in-Some.is in
      (omega arith, omega arith)
  | in_default w ↦
      let next = size_same c.args.items.now c.loop-entry.entry-index c.entry-item.result c.loop-entry-test.true c.entry-item.is w.in_default.is in
      (omega arith, omega arith)
]
