use Rattle.std.proofs.Common.{sym, ◌∙◌}
use Rattle.gs_dlink.proofs.PlainValues.{plain_spelled}
use Rattle.gs_dlink.proofs.value.unescaped.Goals as goal

pub returns-then-place_of-text : goal.returns-then-place_of-text
returns-then-place_of-text c = rw c.lent.ensures (plain_spelled c.args.text.now (sym c.place_of.ensures.place ∙ c.if-place_of-text.true))
