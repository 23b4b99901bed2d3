use Rattle.gs_class.proofs.ReadClasses.{fits_read, fits_values, is_class, one_here, same_values}
use Rattle.gs_class.proofs.reader.read_class.Goals as goal

pub class_identity-requires : goal.class_identity-requires
class_identity-requires c =
    let one = one_here c.args.set.now c.level.result.now c.args.text.now c.in-One.option c.in-One.values c.level.ensures.level (rw c.in-One.is at c.read_text.ensures) in
    fits_values c.args.table.now c.index-classes-option.result c.in-One.values c.items.result.now c.items.ensures
    (fits_read c.args.table.now c.args.set.now c.args.text.now c.in-One.option c.in-One.values c.classes.result.now c.requires one c.classes.ensures c.index-classes-option.result c.index-classes-option.is)

pub returns-in_ok-class_identity-in-One-clause-answer : goal.returns-in_ok-class_identity-in-One-clause-answer
returns-in_ok-class_identity-in-One-clause-answer c =
    let one = one_here c.args.set.now c.level.result.now c.args.text.now c.in-One.option c.in-One.values c.level.ensures.level (rw c.in-One.is at c.read_text.ensures) in
    is_class c.args.table.now c.args.set.now c.args.text.now c.in-One.option c.in-One.values c.classes.result.now c.requires one c.classes.ensures c.index-classes-option.result c.in_ok-class_identity-in-One.field-0 c.index-classes-option.is
    (same_values c.args.table.now c.index-classes-option.result c.in-One.values c.items.result.now c.in_ok-class_identity-in-One.field-0 c.items.ensures c.in_ok-class_identity-in-One.ensures.identity)
