use Rattle.std.proofs.Common.{◌≡◌, Some, slice_get, ap, refl}
use Rattle.gs_epc.specs.Layout.{fields_in}
use Rattle.gs_epc.proofs.LaidLinks.{laid_is}
use Rattle.gs_epc.proofs.LayoutLaws.{made_in_order, pairs_are}
use Rattle.gs_epc.proofs.words.EpcWords.pairs.Goals as goal

pub returns-clause-pairs : goal.returns-clause-pairs
returns-clause-pairs c = λ identity laid.
    let named : slice_get c.args.set.now.kinds c.args.self.now.kind ≡ Some c.kind_at-kind.result.now = rw (← c.self.view_is) c.kind_at-kind.ensures.named in
    let is = laid_is c.args.set.now c.args.self.now identity c.kind_at-kind.result.now c.args.set.now.ais (fields_in c.epc-lent.result) named refl (ap fields_in c.epc-lent.ensures) laid in
    pairs_are c.args.set.now.ais c.kind_at-kind.result.now (fields_in c.epc-lent.result) c.key_and_serial.result identity c.key_and_serial.ensures.key c.key_and_serial.ensures.serial is

pub returns-clause-in_order : goal.returns-clause-in_order
returns-clause-in_order c =
    let fit = c.kind_at-kind.ensures.fit c.args.self.now c.requires (rw (← c.self.view_is) refl) in
    made_in_order c.args.set.now.ais c.kind_at-kind.result.now (fields_in c.epc-lent.result) c.key_and_serial.result c.key_and_serial.ensures.key c.key_and_serial.ensures.serial
    (rw c.epc-lent.ensures fit) (rw c.ais.ensures.rows at c.rows.ensures.kept)
