use Rattle.std.proofs.Common.{arith, ◌<◌, ◌^◌, refl}
use Rattle.gs_grammar.proofs.ItemTests.{int_test}
use Rattle.gs_grammar.proofs.word_tests.is_integer.Goals as goal

pub returns-in-Some : goal.returns-in-Some
returns-in-Some c =
    let small : c.in-Some.whole < 2 ^ 64 = omega arith in
    int_test _ c.args.max c.in-Some.whole _ refl c.requires small c.in-Some.ensures.some
