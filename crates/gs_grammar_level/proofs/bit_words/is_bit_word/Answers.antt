use Rattle.std.proofs.Common.{◌∙◌}
use Rattle.gs_grammar_level.proofs.NumbersInBits.{number_word}
use Rattle.gs_grammar_level.proofs.bit_words.is_bit_word.Goals as goal

pub returns-then-word-from : goal.returns-then-word-from
returns-then-word-from c = λ t.
    number_word _ c.in-NumPad.width c.number_at.result c.args.from _ _ c.in-NumPad.is c.len-count.ensures.bits c.requires.word (c.if-word-from.true ∙ c.from.ensures) (rw c.from-then-word-from.ensures at c.number_at.ensures) (c.is_number_word.ensures t)
