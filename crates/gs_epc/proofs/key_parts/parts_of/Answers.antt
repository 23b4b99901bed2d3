use Rattle.std.proofs.Common.{◌≡◌, None, Some, find, refl}
use Rattle.gs_ai.specs.Values.{has_code}
use Rattle.gs_epc.proofs.key_parts.parts_of.Goals as goal
use Rattle.std.proofs.lemmas.Option.{slice_get_within}

pub key_row-requires : goal.key_row-requires
key_row-requires c = slice_get_within c.args.set.now.kinds c.args.index c.args.kind.now c.requires

pub returns-in-Some : goal.returns-in-Some
returns-in-Some c =
    let found : Some c.in-Some.row.now ≡ find (has_code c.args.kind.now.key) c.args.set.now.ais = rw c.requires at c.in-Some.ensures in
    rw (← found) c.items.ensures

pub returns-in-None : goal.returns-in-None
returns-in-None c =
    let found : None ≡ find (has_code c.args.kind.now.key) c.args.set.now.ais = rw c.requires at c.in-None.ensures in
    rw (← found) refl
