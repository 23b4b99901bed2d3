use Rattle.std.proofs.Common.{◌≡◌, take, true}
use Rattle.std.specs.List.{filter_map, list_all}
use Rattle.gs_linkset.specs.LinkShapes.{is_tagged_text}
use Rattle.gs_linktext.specs.Links.{tagged_text}
use Rattle.gs_linktext.proofs.attrs.tagged_texts.Given as goal

abbrev pub invariant-loop-value : goal.invariant-loop-value
invariant-loop-value l = (l.pairs.items ≡ filter_map tagged_text (take l.value-index l.values)) × (list_all is_tagged_text l.pairs.items ≡ true)
