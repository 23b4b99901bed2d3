use Rattle.std.proofs.Common.{◌≡◌, length, refl}
use Rattle.gs_grammar.specs.Items.{is_between}
use Rattle.gs_grammar.proofs.ItemTests.{ascii_test, ascii_none}
use Rattle.gs_grammar.proofs.word_tests.is_packed.Goals as goal

pub returns-in-Some : goal.returns-in-Some
returns-in-Some c =
    let e : c.is_within.result ≡ is_between c.args.lo c.args.hi c.in-Some.count = cc in
    let l : length c.args.symbols.now ≡ c.args.bits = cc in
    ascii_test _ c.args.lo c.args.hi c.args.bits c.in-Some.count _ _ refl l c.in-Some.ensures.some e

pub returns-in-None : goal.returns-in-None
returns-in-None c = ascii_none _ c.args.lo c.args.hi c.args.bits _ refl c.in-None.ensures.none
