use Rattle.std.proofs.Common.{◌≡◌, ◌<◌, min, length, ◌∙◌, ap, take, arith, rules}
use Rattle.std.proofs.lemmas.List.{take_min}
use Rattle.gs_grammar.proofs.WritingLemmas.{first_step, first_room}
use Rattle.gs_grammar.proofs.bit_writer.first_bits.Goals as goal

pub push_number-requires : goal.push_number-requires
push_number-requires g c =
    let within : c.loop-place.place < length c.args.bits.now = let n = c.len.ensures.count in let m = c.min-count.ensures in let t = c.loop-place-test.true in omega arith in
    (search rules, (omega arith, (search rules, first_room _ _ _ _ c.loop-place.invariant within c.len.ensures.within)))

pub loop-place-preserved : goal.loop-place-preserved
loop-place-preserved g c =
    let within : c.loop-place.place < length c.args.bits.now = let n = c.len.ensures.count in let m = c.min-count.ensures in let t = c.loop-place-test.true in omega arith in
    rw (c.push_number.ensures, c.from.ensures) (first_step _ _ _ _ c.loop-place.invariant within c.len.ensures.bits c.get.ensures)

pub returns : goal.returns
returns g c =
    let whole : c.loop-place.place ≡ min c.args.most (length c.args.bits.now) = let n = c.len.ensures.count in let m = c.min-count.ensures in let t = c.loop-place-test.false in let e = c.loop-place.auto.place-end in omega arith in
    c.loop-place.invariant ∙ ap (λ n. take n c.args.bits.now) whole ∙ take_min c.args.most c.args.bits.now
