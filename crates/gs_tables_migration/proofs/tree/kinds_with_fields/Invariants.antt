use Rattle.std.proofs.Common.{◌≡◌, map, take}
use Rattle.serde_json.specs.View.{view}
use Rattle.gs_tables_migration.specs.Migrations.{with_fields}
use Rattle.gs_tables_migration.proofs.tree.kinds_with_fields.Given as goal

abbrev pub invariant-loop-kind : goal.invariant-loop-kind
invariant-loop-kind l = map view l.kinds.items ≡ map with_fields (map view (take l.kind-index l.kind-items))
