use Rattle.std.proofs.Common.{◌≡◌, None, Some, find, refl}
use Rattle.gs_ai.specs.Values.{has_code}
use Rattle.gs_epc.proofs.key_parts.none_of.Goals as goal
use Rattle.std.proofs.lemmas.Option.{slice_get_within}

pub serial_row-requires : goal.serial_row-requires
serial_row-requires c = slice_get_within c.args.set.now.kinds c.args.index c.args.kind.now c.requires

pub returns-in-Some : goal.returns-in-Some
returns-in-Some c = λ code is.
    let found : Some c.in-Some.row.now ≡ find (has_code code) c.args.set.now.ais = rw (c.requires, is) at c.in-Some.ensures in
    rw (← found) c.as_bytes.ensures

pub returns-in-None : goal.returns-in-None
returns-in-None c = λ code is.
    let found : None ≡ find (has_code code) c.args.set.now.ais = rw (c.requires, is) at c.in-None.ensures in
    rw (← found) refl
