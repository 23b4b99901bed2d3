use Rattle.std.proofs.Common.{refl, arith}
use Rattle.gs_grammar_level.proofs.Entries.{so_many_start, so_many_within, so_many_state, so_many_step, so_many_end}
use Rattle.gs_grammar_level.proofs.trail.push_layer.Goals as goal

pub loop-number-init : goal.loop-number-init
loop-number-init c = so_many_start _ _ _ _ _ refl

pub index-entry-requires : goal.index-entry-requires
index-entry-requires c =
    let within = so_many_within _ _ _ _ _ _ c.loop-number.invariant (grind arith) in
    omega arith

pub edges-requires : goal.edges-requires
edges-requires c = so_many_state _ _ _ _ _ _ _ _ c.loop-number.invariant (grind arith) c.index-entry.ensures c.requires

pub loop-number-preserved : goal.loop-number-preserved
loop-number-preserved c = so_many_step _ _ _ _ _ _ _ _ _ c.loop-number.invariant
    (grind arith) c.index-entry.ensures c.edges.ensures.edges c.in_ok-push_successors.ensures

pub returns : goal.returns
returns c = so_many_end _ _ _ _ _ _ c.loop-number.invariant (grind arith)
