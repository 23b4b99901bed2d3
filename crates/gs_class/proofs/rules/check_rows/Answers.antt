use Rattle.std.proofs.Common.{sym, ◌∙◌}
use Rattle.gs_class.proofs.RowRejections.{few_judged, many_rejected}
use Rattle.gs_class.proofs.rules.check_rows.Goals as goal

pub returns-then-are_many : goal.returns-then-are_many
returns-then-are_many c = many_rejected c.args.ais.now c.args.rows.now (sym c.are_many.ensures ∙ c.if-are_many.true)

pub returns : goal.returns
returns c = few_judged c.args.ais.now c.args.rows.now c.check_each.result (sym c.are_many.ensures ∙ c.if-are_many.false) c.check_each.ensures
