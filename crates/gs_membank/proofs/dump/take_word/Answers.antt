use Rattle.std.proofs.Common.{arith, refl}
use Rattle.std.proofs.lemmas.Result.{err_from_is_err_and}
use Rattle.gs_membank.proofs.ControlLemmas.{taken_length, word_taken}
use Rattle.gs_membank.proofs.dump.take_word.Goals as goal

pub returns-in_err-take_bits-2-clause-short : goal.returns-in_err-take_bits-2-clause-short
returns-in_err-take_bits-2-clause-short c =
    let p = err_from_is_err_and c.from_residual-in_err-take_bits-2.result c.from_residual-in_err-take_bits-2.ensures.1 in
    let a = taken_length 5 _ _ _ c.in_ok-take_bits.ensures.joined in
    let left = c.in_err-take_bits-2.ensures.short.0 refl in
    (λ h. omega arith, λ h. rw p.1 refl)

pub returns-in_err-take_bits-3-clause-short : goal.returns-in_err-take_bits-3-clause-short
returns-in_err-take_bits-3-clause-short c =
    let p = err_from_is_err_and c.from_residual-in_err-take_bits-3.result c.from_residual-in_err-take_bits-3.ensures.1 in
    let a = taken_length 5 _ _ _ c.in_ok-take_bits.ensures.joined in
    let b = taken_length 1 _ _ _ c.in_ok-take_bits-2.ensures.joined in
    let left = c.in_err-take_bits-3.ensures.short.0 refl in
    (λ h. omega arith, λ h. rw p.1 refl)

pub returns-in_err-take_bits-4-clause-short : goal.returns-in_err-take_bits-4-clause-short
returns-in_err-take_bits-4-clause-short c =
    let p = err_from_is_err_and c.from_residual-in_err-take_bits-4.result c.from_residual-in_err-take_bits-4.ensures.1 in
    let a = taken_length 5 _ _ _ c.in_ok-take_bits.ensures.joined in
    let b = taken_length 1 _ _ _ c.in_ok-take_bits-2.ensures.joined in
    let d = taken_length 1 _ _ _ c.in_ok-take_bits-3.ensures.joined in
    let left = c.in_err-take_bits-4.ensures.short.0 refl in
    (λ h. omega arith, λ h. rw p.1 refl)

pub returns-in_err-take_bits-5-clause-short : goal.returns-in_err-take_bits-5-clause-short
returns-in_err-take_bits-5-clause-short c =
    let p = err_from_is_err_and c.from_residual-in_err-take_bits-5.result c.from_residual-in_err-take_bits-5.ensures.1 in
    let a = taken_length 5 _ _ _ c.in_ok-take_bits.ensures.joined in
    let b = taken_length 1 _ _ _ c.in_ok-take_bits-2.ensures.joined in
    let d = taken_length 1 _ _ _ c.in_ok-take_bits-3.ensures.joined in
    let e = taken_length 1 _ _ _ c.in_ok-take_bits-4.ensures.joined in
    let left = c.in_err-take_bits-5.ensures.short.0 refl in
    (λ h. omega arith, λ h. rw p.1 refl)

pub returns-clause-short : goal.returns-clause-short
returns-clause-short c =
    let a = taken_length 5 _ _ _ c.in_ok-take_bits.ensures.joined in
    let b = taken_length 1 _ _ _ c.in_ok-take_bits-2.ensures.joined in
    let d = taken_length 1 _ _ _ c.in_ok-take_bits-3.ensures.joined in
    let e = taken_length 1 _ _ _ c.in_ok-take_bits-4.ensures.joined in
    let f = taken_length 8 _ _ _ c.in_ok-take_bits-5.ensures.joined in
    (λ h. absurd (cc), λ h. absurd (omega arith))

pub returns-clause-word : goal.returns-clause-word
returns-clause-word c =
    word_taken _ _ _ _ _ _ _ _ _ _ _ c.in_ok-take_bits.ensures.small c.in_ok-take_bits-2.ensures.small c.in_ok-take_bits-3.ensures.small c.in_ok-take_bits-4.ensures.small c.in_ok-take_bits-5.ensures.small
    (record {
      words_are = c.in_ok-take_bits.ensures.joined;
      user_is = c.in_ok-take_bits-2.ensures.joined;
      extended_is = c.in_ok-take_bits-3.ensures.joined;
      toggle_is = c.in_ok-take_bits-4.ensures.joined;
      attributes_are = c.in_ok-take_bits-5.ensures.joined;
    })
