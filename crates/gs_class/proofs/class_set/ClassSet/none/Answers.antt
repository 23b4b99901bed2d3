use Rattle.std.proofs.Common.{◌∙◌}
use Rattle.gs_class.proofs.SetParts.{none_of_table}
use Rattle.gs_class.proofs.class_set.ClassSet.none.Goals as goal

pub returns-clause-of_each_table : goal.returns-clause-of_each_table
returns-clause-of_each_table c =
    none_of_table c.in_ok-new.field-0 c.from_vec.result c.in_ok-new.ensures.bit_level (c.in_ok-new.ensures.options ∙ c.new.ensures.items)
    (c.from_vec.ensures ∙ c.new-3.ensures.items)
