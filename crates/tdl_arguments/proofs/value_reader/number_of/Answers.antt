use Rattle.tdl_arguments.proofs.RangeLemmas.{read_err, read_ok}
use Rattle.tdl_arguments.proofs.value_reader.number_of.Goals as goal

pub returns-in-Ok : goal.returns-in-Ok
returns-in-Ok c = read_ok c.args.digits.now c.parse.result c.in-Ok.number c.parse.ensures.value.0 c.requires c.in-Ok.is

pub returns-in-Err : goal.returns-in-Err
returns-in-Err c = read_err c.args.digits.now c.parse.result c.in-Err.field-0 c.parse.ensures.value.0 c.requires c.in-Err.is
