use Rattle.std.proofs.Common.{◌≡◌, ◌-◌, ◌+◌, ◌<◌, ◌∙◌, ℕ, length, subst, refl, arith}
use Rattle.std.proofs.lemmas.List.{length-set}
use Rattle.gs_grammar.proofs.NumberWords.{WritesFrom, writes_step, writes_end}
use Rattle.gs_grammar.proofs.numerals.write_digits.Goals as goal

pub loop-place-preserved : goal.loop-place-preserved
loop-place-preserved c =
    let i = c.loop-place.invariant in
    let places = c.loop-place.places in
    let low : c.loop-place.place - 1 < length places = let w = i.writes.counted in let t = c.loop-place-test.true in omega arith in
    let at : c.loop-place.place ≡ c.loop-place.place - 1 + 1 = let t = c.loop-place-test.true in omega arith in
    record {
      writes = writes_step _ (c.loop-place.place - 1) _ _ places low refl (subst (λ (k : ℕ). WritesFrom c.args.number k c.loop-place.left places) at i.writes);
      long = length-set places (c.loop-place.place - 1) _ ∙ i.long;
    }

pub returns : goal.returns
returns c =
    let none : c.loop-place.place ≡ 0 = let t = c.loop-place-test.false in omega arith in
    let whole = subst (λ (k : ℕ). WritesFrom c.args.number k c.loop-place.left c.loop-place.places) none c.loop-place.invariant.writes in
    rw (← c.loop-place.invariant.long) (writes_end _ _ _ whole)
