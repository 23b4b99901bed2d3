use Rattle.std.proofs.Common.{take}
use Rattle.std.specs.Prelude.{option_to_list}
use Rattle.std.specs.List.{flat_map}
use Rattle.gs_tables.specs.Founds.{IsFound}
use Rattle.gs_tables.specs.Rules.{items_of_field}
use Rattle.gs_tables.proofs.field_items.items_of_field.Given as goal

abbrev pub invariant-loop-entry : goal.invariant-loop-entry
invariant-loop-entry l = IsFound (items_of_field l.field (flat_map option_to_list (take l.entry-index l.items))) l.found
