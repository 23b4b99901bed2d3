use Rattle.std.proofs.Common.{◌≡◌, ◌++◌, take}
use Rattle.std.specs.List.{flat_map}
use Rattle.gs_linktext.specs.Spelling.{spelled_attr}
use Rattle.gs_linktext.proofs.writer.write_attrs.Given as goal

abbrev pub invariant-loop-attr : goal.invariant-loop-attr
invariant-loop-attr l = l.out.items ≡ l.fn.out.items ++ flat_map (spelled_attr) (take l.attr-index l.attrs)
