use Rattle.std.proofs.Common.{◌≡◌, ◌+◌, drop, get_or, refl, arith}
use Rattle.gs_template.specs.Templates.{place_size}
use Rattle.gs_template.proofs.TemplateLemmas.{filled_skip, filled_step, keeps_skip, keeps_step, rest_whole}
use Rattle.gs_template.proofs.expansion.expand.Goals as goal

pub loop-i-preserved-then-further-gt0 : goal.loop-i-preserved-then-further-gt0
loop-i-preserved-then-further-gt0 c =
    let href = c.args.href.now in
    let out = c.loop-i.out.items in (
      filled_skip c.args.identity.now href out out c.loop-i.i (get_or href c.loop-i.i 0) c.loop-i-test.true refl c.loop-i.further _ c.if-further-gt0.true refl c.loop-i.invariant.0,
      keeps_skip c.args.identity.now href out out c.loop-i.i (get_or href c.loop-i.i 0) c.loop-i-test.true refl c.loop-i.further _ c.if-further-gt0.true refl c.loop-i.invariant.1,
    )

pub loop-i-preserved : goal.loop-i-preserved
loop-i-preserved c =
    let href = c.args.href.now in
    let byte = get_or href c.loop-i.i 0 in
    let size = place_size byte (drop (c.loop-i.i + 1) href) in
    let zero : c.loop-i.further ≡ 0 = omega (arith, c.if-further-gt0.false) in
    let further = rw (rest_whole href (c.loop-i.i + 1)) at c.in_ok-further.ensures.further in
    let text = rw (rest_whole href (c.loop-i.i + 1)) at c.in_ok-further.ensures.text in
    let inert = rw (rest_whole href (c.loop-i.i + 1)) at c.in_ok-further.ensures.inert in (
      filled_step c.args.identity.now href c.loop-i.out.items c.append_part.new.out.items c.loop-i.i byte c.loop-i-test.true refl size c.in_ok-further.further refl further text (rw zero at c.loop-i.invariant.0),
      keeps_step c.args.identity.now href c.loop-i.out.items c.append_part.new.out.items c.loop-i.i byte c.loop-i-test.true refl size c.in_ok-further.further refl further text inert (rw zero at c.loop-i.invariant.1),
    )
