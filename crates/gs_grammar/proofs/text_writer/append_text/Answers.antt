use Rattle.std.proofs.Common.{◌≡◌, ◌<◌, Result, Ok, Err, false, true, length, refl, arith}
use Rattle.std.specs.Result.{OnOk, is_err}
use Rattle.std.proofs.lemmas.List.{take_all}
use Rattle.gs_chars.specs.declared.memory.Memory.{Memory}
use Rattle.gs_grammar.proofs.WritingLemmas.{begins_by_front, bounds_at, front_step, held_step, held_all, rejected_at, word_step, words_end}
use Rattle.gs_grammar.proofs.text_writer.append_text.Goals as goal

pub push_word-requires-clause-item : goal.push_word-requires-clause-item
push_word-requires-clause-item c =
    let same = c.items-item-items.ensures.items in
    bounds_at _ _ _ _ _ c.requires.text_level c.items-item-items.ensures.in_bounds.none_bad (rw same at c.loop-number-test.true) (rw same at c.item-item.is)

pub loop-number-init : goal.loop-number-init
loop-number-init c = record { held = λ k item value l p q. absurd (omega arith); whole = refl; front = take_all _ _ (omega arith) }

went_well : {P : Type 0} (r : Result (Unit {0}) Memory) → OnOk r P → false ≡ is_err r → P
went_well (Ok x) h e = h
went_well (Err x) h e = absurd (let f : false ≡ true = e in cc)

pub loop-number-preserved : goal.loop-number-preserved
loop-number-preserved c =
    let same = c.items-item-items.ensures.items in
    let t = rw same at c.loop-number-test.true in
    let n = c.requires.one_each in
    let within : c.loop-number.number < length c.args.values.now = omega arith in
    let item = rw same at c.item-item.is in
    let value = c.index-values-number.is in
    let bytes = c.as_bytes-value.ensures in
    let pushed = went_well c.push_word.result c.push_word.ensures.written c.if-is_err.ensures.value in
    record {
      held = held_step _ _ _ _ _ c.loop-number.invariant.held t within item value (rw bytes at c.in_default.ensures.reason);
      whole = rw (pushed, bytes) (word_step _ _ _ _ _ _ _ t within item value c.loop-number.invariant.whole);
      front = rw pushed (front_step _ _ _ c.loop-number.invariant.front);
    }

pub returns-then-is_err-clause-begun : goal.returns-then-is_err-clause-begun
returns-then-is_err-clause-begun c = begins_by_front c.push_word.result _ _ _ c.if-is_err.ensures.value c.push_word.ensures.begun c.loop-number.invariant.front

pub returns-in-Err-clause-unchanged : goal.returns-in-Err-clause-unchanged
returns-in-Err-clause-unchanged c =
    let count : c.len-before.result ≡ length c.args.text.now.items = let n = c.len-before.ensures in omega arith in
    rw (c.truncate.ensures.items, count) c.loop-number.invariant.front

pub returns-in-Err-clause-rejected : goal.returns-in-Err-clause-rejected
returns-in-Err-clause-rejected c =
    let same = c.items-item-items.ensures.items in
    let t = rw same at c.loop-number-test.true in
    let n = c.requires.one_each in
    let within : c.loop-number.number < length c.args.values.now = omega arith in
    let reason = rw c.as_bytes-value.ensures at c.in-Err.ensures.reason in
    rejected_at _ _ _ _ _ _ c.loop-number.invariant.held t within (rw same at c.item-item.is) c.index-values-number.is reason

pub returns-clause-written : goal.returns-clause-written
returns-clause-written c = words_end _ _ _ _ _ (rw c.items-item-items.ensures.items at c.loop-number-test.false) c.loop-number.invariant.whole

pub returns-clause-held : goal.returns-clause-held
returns-clause-held c = λ ok. held_all _ _ _ c.loop-number.invariant.held (rw c.items-item-items.ensures.items at c.loop-number-test.false)
