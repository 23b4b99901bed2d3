use Rattle.std.proofs.Common.{◌≡◌, ◌++◌, take}
use Rattle.gs_element.specs.WrittenTexts.{last_open, raw_behind}
use Rattle.gs_element.proofs.writer.write_elements.Given as goal

-- the text of the pairs so far, and whether the last of them is open
abbrev pub invariant-loop-pair : goal.invariant-loop-pair
invariant-loop-pair l = record {
  written : l.out.items ≡ l.fn.out.items ++ raw_behind l.fn.unclosed (take l.pair-index l.pairs);
  last_is : l.last ≡ last_open l.fn.unclosed (take l.pair-index l.pairs);
}
