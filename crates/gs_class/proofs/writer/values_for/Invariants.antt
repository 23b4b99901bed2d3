use Rattle.std.proofs.Common.{◌≡◌, map, take}
use Rattle.gs_class.specs.Written.{value_for}
use Rattle.gs_class.specs.WrittenSupport.{fields_in}
use Rattle.gs_class.proofs.writer.values_for.Given as goal

abbrev pub invariant-loop-field : goal.invariant-loop-field
invariant-loop-field l = l.values.items ≡ map (value_for (fields_in l.said)) (take l.field-index l.fields)
