use Rattle.gs_grammar.proofs.ItemTests.{esc_some, esc_none, esc_no_value}
use Rattle.gs_grammar.proofs.word_tests.spell_within.Goals as goal

pub returns-then-not-is_within-clause-none : goal.returns-then-not-is_within-clause-none
returns-then-not-is_within-clause-none c =
    esc_none c.args.lo c.args.hi _ _ _ c.in-Some.ensures.some c.in-Some.ensures.within c.is_within.result
    (rw (c.from.ensures, c.from-2.ensures) at c.is_within.ensures) c.if-not-is_within.true

pub returns-clause-some : goal.returns-clause-some
returns-clause-some c =
    esc_some c.args.lo c.args.hi _ _ _ c.in-Some.ensures.some c.in-Some.ensures.within c.is_within.result
    (rw (c.from.ensures, c.from-2.ensures) at c.is_within.ensures) c.if-not-is_within.false

pub returns-in_default-clause-none : goal.returns-in_default-clause-none
returns-in_default-clause-none c = esc_no_value c.args.lo c.args.hi _ c.requires.few c.in_default.ensures.none
