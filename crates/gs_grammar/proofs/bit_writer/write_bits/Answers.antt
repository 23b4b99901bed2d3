use Rattle.std.proofs.Common.{◌<◌, length, refl, arith, rules}
use Rattle.std.proofs.lemmas.List.{take_all}
use Rattle.gs_grammar.proofs.WritingLemmas.{bounds_at, front_step, held_step, held_all, rejected_at, room_now, room_step, word_step, words_end}
use Rattle.gs_grammar.proofs.bit_writer.write_bits.Goals as goal

pub push_bit_word-requires : goal.push_bit_word-requires
push_bit_word-requires g c =
    let same = c.items-item-items.ensures.items in
    let t = rw same at c.loop-number-test.true in
    let item = rw same at c.item-item.is in
    (search rules, (bounds_at _ _ _ _ _ c.requires.bit_level c.items-item-items.ensures.in_bounds.none_bad t item, room_now _ _ _ _ _ t item c.loop-number.invariant.room))

pub loop-number-init : goal.loop-number-init
loop-number-init g c = record { held = λ k item value l p q. absurd (omega arith); whole = refl; front = take_all _ _ (omega arith); room = c.requires.room }

pub loop-number-preserved : goal.loop-number-preserved
loop-number-preserved g c =
    let same = c.items-item-items.ensures.items in
    let t = rw same at c.loop-number-test.true in
    let n = c.requires.one_each in
    let within : c.loop-number.number < length c.args.values.now = omega arith in
    let item = rw same at c.item-item.is in
    let value = c.index-values-number.is in
    let bytes = c.as_bytes-value.ensures in
    let reason = rw bytes at c.in_default.ensures.reason in
    let bound = bounds_at _ _ _ _ _ c.requires.bit_level c.items-item-items.ensures.in_bounds.none_bad t item in
    record {
      held = held_step _ _ _ _ _ c.loop-number.invariant.held t within item value reason;
      whole = rw (c.in_default.ensures.written, bytes) (word_step _ _ _ _ _ _ _ t within item value c.loop-number.invariant.whole);
      front = rw c.in_default.ensures.written (front_step _ _ _ c.loop-number.invariant.front);
      room = rw (c.in_default.ensures.written, bytes) (room_step _ _ _ _ _ _ t item bound reason c.loop-number.invariant.room);
    }

pub returns-in-Err-clause-unchanged : goal.returns-in-Err-clause-unchanged
returns-in-Err-clause-unchanged g c = rw (c.first_bits.ensures, c.in-Err.ensures.unchanged, c.len-before.ensures.count) c.loop-number.invariant.front

pub returns-in-Err-clause-rejected : goal.returns-in-Err-clause-rejected
returns-in-Err-clause-rejected g c =
    let same = c.items-item-items.ensures.items in
    let t = rw same at c.loop-number-test.true in
    let n = c.requires.one_each in
    let within : c.loop-number.number < length c.args.values.now = omega arith in
    let reason = rw c.as_bytes-value.ensures at c.in-Err.ensures.reason in
    rejected_at _ _ _ _ _ _ c.loop-number.invariant.held t within (rw same at c.item-item.is) c.index-values-number.is reason

pub returns-clause-written : goal.returns-clause-written
returns-clause-written g c = words_end _ _ _ _ _ (rw c.items-item-items.ensures.items at c.loop-number-test.false) c.loop-number.invariant.whole

pub returns-clause-held : goal.returns-clause-held
returns-clause-held g c = λ ok. held_all _ _ _ c.loop-number.invariant.held (rw c.items-item-items.ensures.items at c.loop-number-test.false)
