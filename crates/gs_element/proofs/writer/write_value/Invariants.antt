use Rattle.std.proofs.Common.{◌≡◌, ◌++◌, take}
use Rattle.gs_element.specs.BracketedTexts.{written_value}
use Rattle.gs_element.proofs.writer.write_value.Given as goal

-- the text of the characters so far
abbrev pub invariant-loop-c : goal.invariant-loop-c
invariant-loop-c l = l.out.items ≡ l.fn.out.items ++ written_value (take l.c-index l.value)
