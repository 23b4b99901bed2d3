use Rattle.std.proofs.Common.{refl, arith}
use Rattle.gs_grammar_level.proofs.FollowLemmas.{so_far_start, so_far_step, none_goes, found_at_end, none_at_end}
use Rattle.gs_grammar_level.proofs.trail.follow.Goals as goal

pub loop-symbol-init : goal.loop-symbol-init
loop-symbol-init c = so_far_start _ _ _ _ _ c.start.ensures.start
    (rw (← c.start.ensures.start) c.start.ensures.inside) c.clear.ensures.items c.in_ok-push.ensures.items

pub push_layer-requires : goal.push_layer-requires
push_layer-requires c = c.loop-symbol.invariant.states

pub returns-then-len-end-clause-none : goal.returns-then-len-end-clause-none
returns-then-len-end-clause-none c = none_goes _ _ _ _ _ _ _ c.loop-symbol.invariant c.loop-symbol-test.true refl c.in_ok-push_layer.ensures (grind arith)

pub loop-symbol-preserved : goal.loop-symbol-preserved
loop-symbol-preserved c = so_far_step _ _ _ _ _ _ _ _ c.requires c.loop-symbol.invariant c.loop-symbol-test.true refl c.in_ok-push_layer.ensures (omega arith)

pub returns-clause-found : goal.returns-clause-found
returns-clause-found c = found_at_end _ _ _ _ _ _ _ c.loop-symbol.invariant (grind arith) c.accept.ensures.accept
    (rw c.as_slice.ensures.value at c.entry_of.ensures.some)

pub returns-clause-none : goal.returns-clause-none
returns-clause-none c = none_at_end _ _ _ _ _ _ _ c.loop-symbol.invariant (grind arith) c.accept.ensures.accept
    (rw c.as_slice.ensures.value at c.entry_of.ensures.none)
