use Rattle.std.proofs.Common.{refl, sym, arith, string_bytes}
use Rattle.tdl_arguments.proofs.PairLemmas.{of_empty, one_more}
use Rattle.tdl_arguments.proofs.WordLemmas.{first_words}
use Rattle.tdl_arguments.proofs.pairs.+are_of_rows.Goals as goal

pub returns-then-is_empty-clause-pairs : goal.returns-then-is_empty-clause-pairs
returns-then-is_empty-clause-pairs t c = λ e. of_empty string_bytes c.args.rows.now c.args.words.now c.if-is_empty.ensures

pub returns-clause-pairs : goal.returns-clause-pairs
returns-clause-pairs t c = λ taken.
    rw (first_words string_bytes c.args.words.now c.index-words-0.result c.index-words-1.result c.as_str.result.now c.as_str-2.result.now (grind (arith, c.if-is_empty.ensures, c.if-words-eq1.false)) c.index-words-0.is c.index-words-1.is
    (sym c.as_str.ensures.value) (sym c.as_str-2.ensures.value))
    (one_more c.args.rows.now c.as_str.result.now c.as_str-2.result.now _ c.takes.result (c.if-not-are_of_rows.ensures.pairs refl) taken c.takes.ensures)
