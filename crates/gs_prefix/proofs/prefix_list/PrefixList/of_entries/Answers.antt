use Rattle.std.proofs.lemmas.Result.{err_from_is_err_and}
use Rattle.gs_chars.proofs.TruthsAndLists.{read_at}
use Rattle.gs_prefix.proofs.RejectionLemmas.{all_entries, entry_rejected, limit_passed, one_entry_more}
use Rattle.gs_prefix.proofs.prefix_list.PrefixList.of_entries.Goals as goal

pub returns-then-entries-gt-MOST_ENTRIES : goal.returns-then-entries-gt-MOST_ENTRIES
returns-then-entries-gt-MOST_ENTRIES c = limit_passed c.args.entries.now c.if-entries-gt-MOST_ENTRIES.true

pub returns-in_err-add_entry : goal.returns-in_err-add_entry
returns-in_err-add_entry c =
    let p = err_from_is_err_and c.from_residual.result c.from_residual.ensures.1 in
    let at = read_at c.args.entries.now c.loop-i.i c.index-entries-i.result c.loop-i-test.true c.index-entries-i.is in
    rw (p.1, p.2) (entry_rejected c.args.entries.now c.loop-i.index c.loop-i.i c.index-entries-i.result c.in_err-add_entry.field-0.0 c.if-entries-gt-MOST_ENTRIES.false c.loop-i.invariant at c.in_err-add_entry.ensures.0)

pub loop-i-preserved : goal.loop-i-preserved
loop-i-preserved c =
    let at = read_at c.args.entries.now c.loop-i.i c.index-entries-i.result c.loop-i-test.true c.index-entries-i.is in
    one_entry_more c.args.entries.now c.loop-i.index c.add_entry.new.index c.loop-i.i c.index-entries-i.result c.loop-i.invariant at c.in_ok-add_entry.ensures

pub invariant_of-result : goal.invariant_of-result
invariant_of-result c = c.loop-i.invariant.in_order

pub returns : goal.returns
returns c = all_entries c.args.entries.now c.loop-i.index c.loop-i.i c.if-entries-gt-MOST_ENTRIES.false c.loop-i-test.false c.loop-i.invariant
