use Rattle.std.proofs.Common.{◌≡◌, ◌++◌, take}
use Rattle.std.specs.List.{flat_map}
use Rattle.gs_linktext.specs.Spelling.{quoted_byte}
use Rattle.gs_linktext.proofs.writer.write_quoted_bytes.Given as goal

abbrev pub invariant-loop-c : goal.invariant-loop-c
invariant-loop-c l = l.out.items ≡ l.fn.out.items ++ flat_map (quoted_byte) (take l.c-index l.text)
