use Rattle.std.proofs.Common.{◌≡◌, drop}
use Rattle.std.specs.List.{list_any}
use Rattle.gs_tables.specs.Rules.{is_field}
use Rattle.gs_epc.proofs.candidates.has_item.Given as goal

-- no item so far stands for the field
abbrev pub invariant-loop-at : goal.invariant-loop-at
invariant-loop-at l = list_any (is_field l.field) l.fields ≡ list_any (is_field l.field) (drop l.at-index l.fields)
