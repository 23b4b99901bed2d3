use Rattle.std.proofs.Common.{◌≡◌, map, take}
use Rattle.serde_json.specs.View.{view}
use Rattle.gs_prefix.specs.Documents.{entry_of}
use Rattle.gs_prefix.proofs.document.read_entries.Given as goal

abbrev pub invariant-loop-item : goal.invariant-loop-item
invariant-loop-item l = l.entries.items ≡ map (λ item. entry_of (view item)) (take l.item-index l.initial.item-items)
