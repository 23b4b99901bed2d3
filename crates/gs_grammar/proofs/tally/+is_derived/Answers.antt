use Rattle.std.proofs.Common.{refl, arith, rules}
use Rattle.gs_grammar.proofs.Cuts.{nil_derived, last_found, cut_derived, no_split, none_below, not_derived, never_derived, none_first, first_item, other_items}
use Rattle.gs_grammar.proofs.tally.+is_derived.Goals as goal

pub returns-in_default : goal.returns-in_default
returns-in_default t c = nil_derived _ _ _ c.in_default.ensures.cases c.is_empty.ensures

pub returns-then-is_empty : goal.returns-then-is_empty
returns-then-is_empty t c = last_found _ _ _ _ _ c.in-Some.ensures.cases.0 (grind arith) c.is_word.ensures

pub loop-cut-init : goal.loop-cut-init
loop-cut-init t c = none_first _ _ _ _ (first_item _ _ _ c.in-Some.ensures.cases.0 c.requires) c.shortest-cut.ensures

pub loop-cut-preserved-then-not-is_word : goal.loop-cut-preserved-then-not-is_word
loop-cut-preserved-then-not-is_word t c =
    none_below _ _ _ _ c.loop-cut.invariant (no_split _ _ _ _ _ c.if-not-is_word.true (rw c.split_at.ensures.front at c.is_word-in-loop-cut.ensures))

pub returns-then-is_derived : goal.returns-then-is_derived
returns-then-is_derived t c =
    let word = rw c.split_at.ensures.front at c.is_word-in-loop-cut.ensures in
    let rest = rw c.split_at.ensures.back at c.is_derived.ensures in
    (λ _. cut_derived _ _ _ _ _ c.in-Some.ensures.cases.0 (grind arith) (word.0 c.if-not-is_word.false) (rest.0 c.if-is_derived.true), λ _. refl)

pub loop-cut-preserved : goal.loop-cut-preserved
loop-cut-preserved t c =
    none_below _ _ _ _ c.loop-cut.invariant (not_derived _ _ _ _ _ c.if-is_derived.false (rw c.split_at.ensures.back at c.is_derived.ensures))

pub returns : goal.returns
returns t c = never_derived _ _ _ _ _ _ (first_item _ _ _ c.in-Some.ensures.cases.0 c.requires) c.in-Some.ensures.cases.0 c.loop-cut.invariant (grind arith) c.loop-cut-test.false

pub is_word-requires : goal.is_word-requires
is_word-requires t c = first_item _ _ _ c.in-Some.ensures.cases.0 c.requires

pub is_word-requires-in-loop-cut : goal.is_word-requires-in-loop-cut
is_word-requires-in-loop-cut t c = first_item _ _ _ c.in-Some.ensures.cases.0 c.requires

pub is_derived-requires : goal.is_derived-requires
is_derived-requires t c = (search rules, other_items _ _ _ c.in-Some.ensures.cases.0 c.requires)
