use Rattle.std.proofs.Common.{arith, ◌≡◌, true, false, sym, ◌∙◌}
use Rattle.std.proofs.lemmas.Grind.{common_steps}
use Rattle.std.proofs.lemmas.List.{take_rest}
use Rattle.gs_grammar.proofs.Packs.{pack_counts_bad, pack_counts_step, pack_counts_end, pack_counts_none, code_length}
use Rattle.gs_grammar.proofs.bit_words.packed_count.Goals as goal

pub returns-then-not-holds-clause-none : goal.returns-then-not-holds-clause-none
returns-then-not-holds-clause-none c =
    pack_counts_bad _ _ _ _ c.loop-code.invariant c.in-Some.ensures.some (sym c.holds.ensures ∙ c.if-not-holds.true)

pub slice_bounds-rest-count : goal.slice_bounds-rest-count
slice_bounds-rest-count c = let l = code_length _ _ c.in-Some.ensures.some in omega arith

pub slice_bounds-rest-start : goal.slice_bounds-rest-start
slice_bounds-rest-start c = let l = code_length _ _ c.in-Some.ensures.some in omega arith

pub loop-code-smaller : goal.loop-code-smaller
loop-code-smaller c = let l = code_length _ _ c.in-Some.ensures.some in grind (arith, common_steps)

pub loop-code-preserved : goal.loop-code-preserved
loop-code-preserved c =
    rw take_rest (pack_counts_step _ _ _ _ c.loop-code.invariant c.in-Some.ensures.some (sym c.holds.ensures ∙ c.if-not-holds.false))

pub returns-then-are_zeros-clause-some : goal.returns-then-are_zeros-clause-some
returns-then-are_zeros-clause-some c = pack_counts_end _ _ _ c.loop-code.invariant (c.are_zeros.ensures.0 c.if-are_zeros.true)

pub returns-else-are_zeros-clause-none : goal.returns-else-are_zeros-clause-none
returns-else-are_zeros-clause-none c =
    pack_counts_none _ _ _ c.loop-code.invariant c.in_default.ensures.none (λ e.
    let f : true ≡ false = sym (c.are_zeros.ensures.1 e) ∙ c.if-are_zeros.false in cc)
