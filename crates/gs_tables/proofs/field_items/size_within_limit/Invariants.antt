use Rattle.std.proofs.Common.{◌≡◌, ◌≤◌, take, map}
use Rattle.std.specs.Prelude.{option_to_list}
use Rattle.std.specs.List.{flat_map}
use Rattle.gs_grammar.specs.Items.{size_of_all}
use Rattle.gs_grammar.specs.Limits.{most_symbols}
use Rattle.gs_tables_document.specs.Items.{FieldItem}
use Rattle.gs_tables.proofs.field_items.size_within_limit.Given as goal

abbrev pub invariant-loop-entry : goal.invariant-loop-entry
invariant-loop-entry l = (l.size ≡ size_of_all (map (λ (i : FieldItem). i.1) (flat_map option_to_list (take l.entry-index l.items)))) × (l.size ≤ most_symbols)
