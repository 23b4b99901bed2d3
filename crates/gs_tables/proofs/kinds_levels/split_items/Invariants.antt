use Rattle.std.proofs.Common.{◌≡◌, map}
use Rattle.std.specs.Prelude.{option_to_list}
use Rattle.std.specs.List.{flat_map}
use Rattle.gs_tables_document.specs.Items.{FieldItem}
use Rattle.gs_tables.proofs.kinds_levels.split_items.Given as goal

abbrev pub invariant-loop-entry : goal.invariant-loop-entry
invariant-loop-entry l =
    (l.fields.items ≡ map (λ (i : FieldItem). i.0) (flat_map option_to_list l.yielded))
    × (l.alone.items ≡ map (λ (i : FieldItem). i.1) (flat_map option_to_list l.yielded))
