use Rattle.std.proofs.Common.{◌≡◌, take, true}
use Rattle.std.specs.List.{list_all}
use Rattle.std.specs.Str.{is_utf8}
use Rattle.gs_linktext.proofs.attrs.copies.Given as goal

abbrev pub invariant-loop-value : goal.invariant-loop-value
invariant-loop-value l = (l.texts.items ≡ take l.value-index l.values) × (list_all is_utf8 l.texts.items ≡ true)
