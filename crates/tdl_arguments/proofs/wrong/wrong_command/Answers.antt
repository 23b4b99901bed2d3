use Rattle.std.proofs.Common.{sym, arith, string_bytes}
use Rattle.tdl_arguments.proofs.WordLemmas.{first_word}
use Rattle.tdl_arguments.proofs.wrong.wrong_command.Goals as goal

pub returns : goal.returns
returns c =
    rw (first_word string_bytes c.args.words.now c.index-words-0.result c.as_str.result.now (grind (arith, c.if-is_empty.ensures)) c.index-words-0.is (sym c.as_str.ensures.value))
    c.wrong_by.ensures
