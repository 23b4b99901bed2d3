use Rattle.std.proofs.Common.{position, take, nat_lt, rules}
use Rattle.gs_grammar.specs.Items.{size_of_all}
use Rattle.gs_grammar.specs.Limits.{most_symbols}
use Rattle.gs_tables_document.specs.Items.{alone, present}
use Rattle.gs_class.specs.declared.error.ClassLoadFault.TheVariants.{BadItem, Size, Mismatch, Duplicate}
use Rattle.gs_class.specs.Rules.{is_bad_item, is_class, is_same_row, row_rejections}
use Rattle.gs_tables.proofs.OptionLemmas.{above_limit, within_limit}
use Rattle.gs_class.proofs.RowRejections.{bad_first, size_next, mismatch_next, twin_decides}
use Rattle.gs_class.proofs.rules.check_row.Goals as goal

pub returns-in-Some : goal.returns-in-Some
unfolding row_rejections
returns-in-Some c =
    bad_first (position is_bad_item c.args.row.now.items) (position (is_same_row c.args.row.now) (take c.args.i c.args.rows.now))
    (λ k. BadItem c.args.i k) (λ j. Duplicate j c.args.i) (nat_lt most_symbols (size_of_all (alone (present c.args.row.now.items))))
    (is_class c.args.ais.now (take c.args.i c.args.rows.now) c.args.row.now) (Size c.args.i) (Mismatch c.args.i)
    c.in-Some.k (search rules)

pub returns-then-is_none : goal.returns-then-is_none
unfolding row_rejections
returns-then-is_none c =
    size_next (position is_bad_item c.args.row.now.items) (position (is_same_row c.args.row.now) (take c.args.i c.args.rows.now))
    (λ k. BadItem c.args.i k) (λ j. Duplicate j c.args.i) (nat_lt most_symbols (size_of_all (alone (present c.args.row.now.items))))
    (is_class c.args.ais.now (take c.args.i c.args.rows.now) c.args.row.now) (Size c.args.i) (Mismatch c.args.i)
    (search rules) (above_limit most_symbols (size_of_all (alone (present c.args.row.now.items))) (search rules))

pub returns-then-not-is_class : goal.returns-then-not-is_class
unfolding row_rejections
returns-then-not-is_class c =
    mismatch_next (position is_bad_item c.args.row.now.items) (position (is_same_row c.args.row.now) (take c.args.i c.args.rows.now))
    (λ k. BadItem c.args.i k) (λ j. Duplicate j c.args.i) (nat_lt most_symbols (size_of_all (alone (present c.args.row.now.items))))
    (is_class c.args.ais.now (take c.args.i c.args.rows.now) c.args.row.now) (Size c.args.i) (Mismatch c.args.i)
    (search rules) (within_limit most_symbols (size_of_all (alone (present c.args.row.now.items))) (search rules)) (search rules)

pub returns : goal.returns
unfolding row_rejections
returns c =
    twin_decides (position is_bad_item c.args.row.now.items) (position (is_same_row c.args.row.now) (take c.args.i c.args.rows.now))
    (λ k. BadItem c.args.i k) (λ j. Duplicate j c.args.i) (nat_lt most_symbols (size_of_all (alone (present c.args.row.now.items))))
    (is_class c.args.ais.now (take c.args.i c.args.rows.now) c.args.row.now) (Size c.args.i) (Mismatch c.args.i)
    c.check_unlike.result (search rules) (within_limit most_symbols (size_of_all (alone (present c.args.row.now.items))) (search rules))
    (search rules) c.check_unlike.ensures
