use Rattle.std.proofs.Common.{arith, ◌<◌, length, length-set}
use Rattle.std.proofs.lemmas.List.{take_rest}
use Rattle.gs_grammar.proofs.Cuts.{tally_take}
use Rattle.gs_grammar.proofs.SpellingLemmas.{gathers_step, gathers_end, gathers_none, gathers_more}
use Rattle.gs_grammar.proofs.word_tests.spell.Goals as goal

pub returns-in_err-character-clause-none : goal.returns-in_err-character-clause-none
returns-in_err-character-clause-none c =
    rw c.from_residual.ensures (λ value few. gathers_none _ _ _ c.loop-rest.invariant.gathers (grind arith) c.in_err-character.ensures.none value)

pub loop-rest-preserved : goal.loop-rest-preserved
loop-rest-preserved c =
    let room = c.loop-rest.invariant.room in
    let within = c.loop-rest.invariant.within in
    let more = c.if-count-eq64.false in
    let low : c.loop-rest.count < length c.loop-rest.out = omega arith in
    record {
      room = simp length-set room;
      within = omega arith;
      gathers = rw (tally_take _ _ _ low, take_rest) (gathers_step _ _ _ _ _ c.loop-rest.invariant.gathers c.in_ok-character.ensures.found);
    }

pub returns-then-count-eq64-clause-none : goal.returns-then-count-eq64-clause-none
returns-then-count-eq64-clause-none c = gathers_more _ _ _ _ c.loop-rest.invariant.gathers c.loop-rest.invariant.room c.if-count-eq64.true (grind arith)

pub returns-clause-some : goal.returns-clause-some
returns-clause-some c = gathers_end _ _ _ c.loop-rest.invariant.gathers (grind arith)
