use Rattle.std.proofs.Common.{◌≡◌, ◌++◌, ◌∙◌, ap, refl}
use Rattle.gs_membank.specs.Banks.{bit_of}
use Rattle.gs_membank.proofs.ControlLemmas.{flag_bit}
use Rattle.gs_membank.proofs.dump.push_flag.Goals as goal
use Rattle.gs_membank.proofs.dump.push_flag.Goals.{else-set, then-set}

pub returns : goal.returns
returns c =
    let digit : c.if-set.push_number ≡ bit_of c.args.set = elim c.if-set.branch [ then-set w ↦ rw (w.push_number-is, w.if-set.true) refl | else-set w ↦ rw (w.push_number-is, w.if-set.false) refl ] in
    c.push_number.ensures ∙ ap (λ w. c.args.bits.now ++ w) (flag_bit c.args.set c.if-set.push_number digit)
