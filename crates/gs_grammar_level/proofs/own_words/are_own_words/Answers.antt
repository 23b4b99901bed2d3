use Rattle.std.proofs.Common.{arith}
use Rattle.gs_grammar.specs.Words.{own_value}
use Rattle.gs_grammar_level.proofs.OwnWords.{words_start, words_cut, words_step, words_end}
use Rattle.gs_grammar_level.proofs.own_words.are_own_words.Goals as goal

pub loop-item-init : goal.loop-item-init
loop-item-init c = words_start own_value _ _ _ c.requires

pub width_by-width-requires : goal.width_by-width-requires
width_by-width-requires c = (words_cut own_value _ _ _ _ _ _ _ _ c.in-Some.ensures.cases.0 c.loop-item.invariant).1

pub loop-item-preserved : goal.loop-item-preserved
loop-item-preserved c =
    rw (c.split_at.ensures.back, c.width_by-width.ensures)
    (words_step own_value _ _ _ _ _ _ _ _ c.in-Some.ensures.cases.0 c.loop-item.invariant (rw c.width_by-width.ensures at c.if-rest-width.false) (rw (c.split_at.ensures.front, c.width_by-width.ensures) at (c.is_own_word.ensures c.if-not-is_own_word.false)))

pub returns : goal.returns
returns c = λ e. words_end own_value _ _ _ _ _ _ c.loop-item.invariant c.in_default.ensures.cases (grind arith)
