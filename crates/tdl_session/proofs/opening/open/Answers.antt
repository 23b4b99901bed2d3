use Rattle.std.proofs.Common.{refl}
use Rattle.tdl_session.proofs.opening.open.Goals as goal

pub returns : goal.returns
returns c = (
  c.in_ok-new.ensures.classes,
  rw c.in_ok-new.ensures.session (record {
    chosen = c.in_ok-chosen.chosen;
    is_chosen = c.in_ok-chosen.ensures.chosen;
    has_tables = c.in_ok-set.ensures.ok;
    has_prefixes = c.in_ok-list.ensures.ok;
    is = refl;
  }),
)
