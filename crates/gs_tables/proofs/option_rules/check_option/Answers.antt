use Rattle.std.proofs.Common.{position, take, nat_lt, rules}
use Rattle.gs_grammar.specs.Items.{size_of_all}
use Rattle.gs_grammar.specs.Limits.{most_symbols}
use Rattle.gs_tables_document.specs.declared.error.LimitName.TheVariants as limits
use Rattle.gs_tables_document.specs.declared.error.LoadFault.TheVariants.{BadItem, Limit, Mismatch, Duplicate}
use Rattle.gs_tables_document.specs.Documents.{is_bits}
use Rattle.gs_tables.specs.Tables.{fits, is_bad_item, is_same, items_alone, option_rejections}
use Rattle.gs_tables.proofs.OptionLemmas.{bad_first, size_next, mismatch_next, twin_decides, above_limit, within_limit}
use Rattle.gs_tables.proofs.option_rules.check_option.Goals as goal

pub returns-in-Some : goal.returns-in-Some
unfolding option_rejections
returns-in-Some c =
    bad_first (position (is_bad_item (is_bits c.args.level)) c.args.row.now.items)
    (position (λ other. is_same other c.args.row.now) (take c.args.i c.args.rows.now)) (λ k. BadItem c.args.level c.args.i k)
    (λ j. Duplicate c.args.level j c.args.i) (nat_lt most_symbols (size_of_all (items_alone c.args.row.now)))
    (fits c.args.ais.now c.args.kinds.now c.args.level c.args.row.now) (Limit limits.Size) (Mismatch c.args.level c.args.i)
    c.in-Some.k (search rules)

pub returns-in_default-size_within_limit : goal.returns-in_default-size_within_limit
unfolding option_rejections
returns-in_default-size_within_limit c =
    size_next (position (is_bad_item (is_bits c.args.level)) c.args.row.now.items)
    (position (λ other. is_same other c.args.row.now) (take c.args.i c.args.rows.now)) (λ k. BadItem c.args.level c.args.i k)
    (λ j. Duplicate c.args.level j c.args.i) (nat_lt most_symbols (size_of_all (items_alone c.args.row.now)))
    (fits c.args.ais.now c.args.kinds.now c.args.level c.args.row.now) (Limit limits.Size) (Mismatch c.args.level c.args.i)
    (search rules) (above_limit most_symbols (size_of_all (items_alone c.args.row.now)) (search rules))

pub returns-then-not-fits : goal.returns-then-not-fits
unfolding option_rejections
returns-then-not-fits c =
    mismatch_next (position (is_bad_item (is_bits c.args.level)) c.args.row.now.items)
    (position (λ other. is_same other c.args.row.now) (take c.args.i c.args.rows.now)) (λ k. BadItem c.args.level c.args.i k)
    (λ j. Duplicate c.args.level j c.args.i) (nat_lt most_symbols (size_of_all (items_alone c.args.row.now)))
    (fits c.args.ais.now c.args.kinds.now c.args.level c.args.row.now) (Limit limits.Size) (Mismatch c.args.level c.args.i)
    (search rules) (within_limit most_symbols (size_of_all (items_alone c.args.row.now)) (search rules)) (search rules)

pub returns : goal.returns
unfolding option_rejections
returns c =
    twin_decides (position (is_bad_item (is_bits c.args.level)) c.args.row.now.items)
    (position (λ other. is_same other c.args.row.now) (take c.args.i c.args.rows.now)) (λ k. BadItem c.args.level c.args.i k)
    (λ j. Duplicate c.args.level j c.args.i) (nat_lt most_symbols (size_of_all (items_alone c.args.row.now)))
    (fits c.args.ais.now c.args.kinds.now c.args.level c.args.row.now) (Limit limits.Size) (Mismatch c.args.level c.args.i)
    c.check_unlike.result (search rules) (within_limit most_symbols (size_of_all (items_alone c.args.row.now)) (search rules))
    (search rules) c.check_unlike.ensures
