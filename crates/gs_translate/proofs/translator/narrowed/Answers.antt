use Rattle.std.proofs.Common.{refl}
use Rattle.gs_translate.proofs.NarrowedLaws.{alone_is_made, serial_is_made}
use Rattle.gs_translate.proofs.PairLaws.{ais_kept}
use Rattle.gs_translate.proofs.translator.narrowed.Goals as goal

pub returns-in-Some-clause-narrowed : goal.returns-in-Some-clause-narrowed
returns-in-Some-clause-narrowed c =
    let found = rw c.key.ensures at c.in-Some.ensures in
    rw (c.key_and_serial.ensures, ← found) refl

pub returns-in-Some-clause-with_table : goal.returns-in-Some-clause-with_table
returns-in-Some-clause-with_table c =
    rw c.key_and_serial.ensures (serial_is_made c.args.set.now.ais c.args.identity (ais_kept c.args.set.now c.ais.ensures.shaped) c.requires c.in-Some.kind.now.serial)

pub returns-in-None-clause-narrowed : goal.returns-in-None-clause-narrowed
returns-in-None-clause-narrowed c =
    let found = rw c.key.ensures at c.in-None.ensures in
    rw (c.key_alone.ensures, ← found) refl

pub returns-in-None-clause-with_table : goal.returns-in-None-clause-with_table
returns-in-None-clause-with_table c =
    rw c.key_alone.ensures (alone_is_made c.args.set.now.ais c.args.identity (ais_kept c.args.set.now c.ais.ensures.shaped) c.requires)
