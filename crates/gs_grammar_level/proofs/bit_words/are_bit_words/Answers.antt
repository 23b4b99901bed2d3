use Rattle.gs_grammar.specs.Items.{IsItem}
use Rattle.std.proofs.Common.{arith}
use Rattle.std.proofs.lemmas.List.Elements.{All-head, All-tail}
use Rattle.gs_grammar_level.specs.OwnWords.{bit_value}
use Rattle.gs_grammar_level.proofs.OwnWords.{words_start, words_cut, words_step, words_end, word_there}
use Rattle.gs_grammar_level.proofs.bit_words.are_bit_words.Goals as goal

pub loop-item-init : goal.loop-item-init
loop-item-init c = record { words = rw c.requires.same (words_start bit_value _ _ _ c.requires.places); each = c.requires.each }

pub width_by-width-requires : goal.width_by-width-requires
width_by-width-requires c = (words_cut bit_value _ _ _ _ _ _ _ _ c.in-Some.ensures.cases.0 c.loop-item.invariant.words).1

pub loop-item-preserved : goal.loop-item-preserved
loop-item-preserved c = record {
  words = rw (c.split_at.ensures.back, c.width_by-width.ensures)
      (words_step bit_value _ _ _ _ _ _ _ _ c.in-Some.ensures.cases.0 c.loop-item.invariant.words (rw c.width_by-width.ensures at c.if-rest-width.false) (rw (c.split_at.ensures.front, c.width_by-width.ensures) at (c.is_bit_word.ensures c.if-not-is_bit_word.false)));
  each = All-tail IsItem c.in-Some.item.now c.in-Some.others.now (rw c.in-Some.ensures.cases.0 at c.loop-item.invariant.each);
}

pub is_bit_word-requires-clause-item : goal.is_bit_word-requires-clause-item
is_bit_word-requires-clause-item c = All-head IsItem c.in-Some.item.now c.in-Some.others.now (rw c.in-Some.ensures.cases.0 at c.loop-item.invariant.each)

pub is_bit_word-requires-clause-within : goal.is_bit_word-requires-clause-within
is_bit_word-requires-clause-within c =
    (word_there bit_value _ _ _ _ _ _ _ _ _ c.width_by-width.result c.in-Some.ensures.cases.0 c.loop-item.invariant.words c.if-rest-width.false c.split_at.ensures.front).within

pub is_bit_word-requires-clause-word : goal.is_bit_word-requires-clause-word
is_bit_word-requires-clause-word c =
    (word_there bit_value _ _ _ _ _ _ _ _ _ c.width_by-width.result c.in-Some.ensures.cases.0 c.loop-item.invariant.words c.if-rest-width.false c.split_at.ensures.front).is

pub returns : goal.returns
returns c = λ e. words_end bit_value _ _ _ _ _ _ c.loop-item.invariant.words c.in_default.ensures.cases (grind arith)
