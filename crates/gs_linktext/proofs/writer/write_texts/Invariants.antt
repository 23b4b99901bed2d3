use Rattle.std.proofs.Common.{◌≡◌, ◌++◌, take}
use Rattle.std.specs.List.{flat_map}
use Rattle.gs_linktext.specs.Spelling.{spelled_text}
use Rattle.gs_linktext.proofs.writer.write_texts.Given as goal

abbrev pub invariant-loop-text : goal.invariant-loop-text
invariant-loop-text l = l.out.items ≡ l.fn.out.items ++ flat_map (spelled_text l.name) (take l.text-index l.texts)
