use Rattle.gs_class.proofs.SetParts.{all_texts}
use Rattle.gs_class.proofs.class_set.make_parts.Goals as goal

pub new-requires : goal.new-requires
new-requires c = all_texts c.push_classes.new.options.items c.args.rows.items (rw c.new-options.ensures.items at c.in_ok-push_classes.ensures.options)
