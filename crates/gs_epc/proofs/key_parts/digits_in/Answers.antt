use Rattle.gs_epc.proofs.key_parts.digits_in.Goals as goal

pub returns : goal.returns
returns c = rw (c.saturating_sub.ensures, c.checked_count.ensures, c.behind_zero.ensures) at c.take_first.ensures
