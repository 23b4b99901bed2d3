use Rattle.std.proofs.Common.{sym, arith, string_bytes}
use Rattle.tdl_arguments.proofs.WordLemmas.{first_words}
use Rattle.tdl_arguments.proofs.arguments.translation_of.Goals as goal

pub returns : goal.returns
returns c =
    rw (first_words string_bytes c.args.words.now c.index-words-0.result c.index-words-1.result c.as_str.result.now c.as_str-2.result.now (grind (arith, c.if-words-lt2.false)) c.index-words-0.is c.index-words-1.is
    (sym c.as_str.ensures.value) (sym c.as_str-2.ensures.value))
    c.translation_by.ensures
