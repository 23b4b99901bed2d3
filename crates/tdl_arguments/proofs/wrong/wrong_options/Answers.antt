use Rattle.std.proofs.Common.{string_bytes}
use Rattle.tdl_arguments.proofs.WrongLemmas.{from_start}
use Rattle.tdl_arguments.proofs.wrong.wrong_options.Goals as goal

pub returns : goal.returns
returns c = from_start string_bytes c.args.rows.now c.args.options.now c.args.before c.wrong_from.result c.wrong_from.ensures
