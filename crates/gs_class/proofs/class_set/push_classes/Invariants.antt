use Rattle.std.proofs.Common.{◌≡◌, ◌++◌, map}
use Rattle.gs_class.specs.Sets.{class_of, option_of}
use Rattle.gs_class.proofs.class_set.push_classes.Given as goal

abbrev pub invariant-loop-row : goal.invariant-loop-row
invariant-loop-row l =
    (l.options.items ≡ l.fn.options.items ++ map option_of l.yielded)
    × (l.classes.items ≡ l.fn.classes.items ++ map class_of l.yielded)
