use Rattle.std.proofs.Common.{arith, ◌<◌, ◌^◌}
use Rattle.gs_grammar.proofs.NumberWords.{numpad_word, numstr_found}
use Rattle.gs_grammar.proofs.number_words.is_number_word.Goals as goal

pub returns-then-n-le18 : goal.returns-then-n-le18
returns-then-n-le18 c = λ t. rw c.in-NumPad.is (numpad_word _ c.in-NumPad.n c.args.number (c.has_at_most_digits.ensures.0 t))

pub returns-then-hi-le12 : goal.returns-then-hi-le12
returns-then-hi-le12 c =
    let small : c.args.number < 2 ^ 64 = omega arith in
    let d = c.digits_behind_one.ensures in
    rw c.in-NumStr.is (numstr_found _ c.in-NumStr.hi c.args.number _ _ c.is_some.ensures small d.least d.most d.digits)
