use Rattle.std.proofs.Common.{◌≡◌, ◌++◌, take}
use Rattle.gs_element.specs.BracketedTexts.{bracketed_text}
use Rattle.gs_element.proofs.writer.write_pairs.Given as goal

-- the text of the pairs so far
abbrev pub invariant-loop-pair : goal.invariant-loop-pair
invariant-loop-pair l = l.out.items ≡ l.fn.out.items ++ bracketed_text (take l.pair-index l.pairs)
