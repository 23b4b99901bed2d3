use Rattle.std.proofs.Common.{◌≡◌, ◌+◌, ◌∷◌, drop, get_or, refl, arith}
use Rattle.gs_template.specs.Templates.{place_size}
use Rattle.gs_template.proofs.TemplateLemmas.{errors_skip, errors_step, rest_whole}
use Rattle.gs_template.proofs.places.places_ok.Goals as goal

pub loop-i-preserved-then-further-gt0 : goal.loop-i-preserved-then-further-gt0
loop-i-preserved-then-further-gt0 c =
    let href = c.args.href.now in
    errors_skip (c.args.key.now ∷ c.qualifiers_of-qualifiers.result.now) href c.loop-i.i
    (get_or href c.loop-i.i 0) c.loop-i-test.true refl c.loop-i.further _ c.if-further-gt0.true refl c.loop-i.invariant

pub loop-i-preserved : goal.loop-i-preserved
loop-i-preserved c =
    let href = c.args.href.now in
    let byte = get_or href c.loop-i.i 0 in
    let zero : c.loop-i.further ≡ 0 = omega (arith, c.if-further-gt0.false) in
    errors_step (c.args.key.now ∷ c.qualifiers_of-qualifiers.result.now) href c.loop-i.i byte c.loop-i-test.true refl
    (place_size byte (drop (c.loop-i.i + 1) href)) c.in_ok-further.further refl
    (rw (rest_whole href (c.loop-i.i + 1)) at c.in_ok-further.ensures.fine)
    (rw (rest_whole href (c.loop-i.i + 1)) at c.in_ok-further.ensures.further) (rw zero at c.loop-i.invariant)
