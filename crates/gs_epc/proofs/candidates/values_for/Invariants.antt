use Rattle.std.proofs.Common.{◌≡◌, ◌++◌, drop, map}
use Rattle.gs_epc.specs.Candidates.{value_for}
use Rattle.gs_epc.proofs.candidates.values_for.Given as goal

abbrev pub invariant-loop-field : goal.invariant-loop-field
invariant-loop-field l =
    l.values.items ++ map (value_for l.fn.level l.epc) (drop l.field-index l.fields) ≡ map (value_for l.fn.level l.epc) l.fields
