use Rattle.std.proofs.lemmas.List.{take_all}
use Rattle.gs_ident.proofs.KeyLemmas.{no_keys_yet, with_next, with_unknown}
use Rattle.gs_ident.proofs.maker.keys_among.Goals as goal
use Rattle.gs_ident.proofs.maker.keys_among.Goals.{in-Some, in_default}

pub loop-place-init : goal.loop-place-init
loop-place-init c = no_keys_yet c.args.table.now

pub loop-place-preserved : goal.loop-place-preserved
loop-place-preserved c =
    let table = c.args.table.now in
    let pairs = c.args.pairs.now in
    let pair = c.index-pairs-place.result in
    elim c.match-find.branch [
      | in-Some w ↦ rw w.keys-is (with_next table pairs c.loop-place.place pair c.loop-place.keys w.with_pair-keys.result c.loop-place-test.true c.index-pairs-place.is w.with_pair-keys.ensures c.loop-place.invariant)
      | in_default w ↦
          let none = rw c.as_bytes.ensures at w.in_default.ensures.row in
          rw w.keys-is (with_unknown table pairs c.loop-place.place pair c.loop-place.keys c.find.ensures.kept c.loop-place-test.true c.index-pairs-place.is none c.loop-place.invariant)
    ]

pub returns : goal.returns
returns c = rw (take_all c.loop-place.place c.args.pairs.now c.loop-place-test.false) at c.loop-place.invariant
