use Rattle.std.proofs.Common.{◌≡◌, ◌+◌, get_or, arith, refl}
use Rattle.std.proofs.lemmas.List.{take_rest}
use Rattle.gs_membank.specs.Banks.{bit_of}
use Rattle.gs_membank.proofs.StartLemmas.{start_read}
use Rattle.gs_membank.proofs.shown.read_start.Goals as goal
use Rattle.gs_membank.proofs.shown.read_start.Goals.{in-48, in-49}

pub returns-clause-start : goal.returns-clause-start
returns-clause-start c =
    let u : get_or c.args.line.now 0 0 ≡ 117 = omega arith in
    let s : get_or c.args.line.now 2 0 ≡ 32 = omega arith in
    let a : get_or c.args.line.now 3 0 ≡ 97 = omega arith in
    let l : get_or c.args.line.now 6 0 ≡ 32 = omega arith in
    let digit : get_or c.args.line.now 1 0 ≡ 48 + bit_of c.match-digit.user = elim c.match-digit.branch [ in-48 w ↦ rw (w.user-is, w.in-48.is) refl | in-49 w ↦ rw (w.user-is, w.in-49.is) refl ] in
    start_read c.args.line.now _ c.match-digit.user _ _ (omega arith) u digit s a l c.in_ok-hex_value.ensures c.in_ok-attributes.ensures
    (take_rest c.args.line.now 7)
