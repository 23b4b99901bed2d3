use Rattle.std.proofs.Common.{sym}
use Rattle.gs_class.proofs.OneName.{can_be_written}
use Rattle.gs_class.proofs.writer.write_class.Goals as goal

pub write_by_name-requires : goal.write_by_name-requires
write_by_name-requires c =
    can_be_written c.args.table.now c.args.set.now c.args.identity.now c.requires.of_table c.requires.made c.in-Some.class.now
    (sym (rw c.classes-classes.ensures at c.in-Some.ensures))
