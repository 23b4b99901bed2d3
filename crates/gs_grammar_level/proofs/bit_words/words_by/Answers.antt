use Rattle.gs_grammar_level.proofs.OwnWords.{cut_reads}
use Rattle.gs_grammar_level.proofs.bit_words.words_by.Goals as goal

pub returns : goal.returns
returns c = cut_reads _ _ _ _ _ _ c.requires.unambiguous c.in_ok-items.ensures (c.are_bit_words.ensures c.if-not-are_bit_words.false)
