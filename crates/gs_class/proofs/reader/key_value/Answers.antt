use Rattle.gs_class.specs.Meanings.{said_by}
use Rattle.gs_class.proofs.ReadClasses.{digits_read, key_written}
use Rattle.gs_class.proofs.reader.key_value.Goals as goal

pub push_checked-requires : goal.push_checked-requires
push_checked-requires c =
    digits_read c.args.ais.now c.args.class.now (said_by c.args.class.now c.args.values.now) c.value_of.result.now c.value_of-2.result.now c.requires c.rows.ensures.kept
    (rw c.items-fields.ensures at c.value_of.ensures) (rw c.items-fields.ensures at c.value_of-2.ensures)

pub returns : goal.returns
returns c =
    key_written c.args.class.now (said_by c.args.class.now c.args.values.now) _ c.push_checked.new.value c.value_of.result.now c.value_of-2.result.now c.new-value.ensures
    (rw c.items-fields.ensures at c.value_of.ensures) (rw c.items-fields.ensures at c.value_of-2.ensures) c.in_ok-push_checked.ensures
