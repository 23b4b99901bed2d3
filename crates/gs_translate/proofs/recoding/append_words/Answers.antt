use Rattle.std.proofs.Common.{refl}
use Rattle.gs_ident.specs.Links.{canonical_link, spelled}
use Rattle.gs_translate.proofs.RecodingLaws.{listed}
use Rattle.gs_translate.proofs.recoding.append_words.Goals as goal

pub returns-in-Hex-clause-written : goal.returns-in-Hex-clause-written
returns-in-Hex-clause-written c = rw (c.in-Hex.is, ← c.epc-epc.ensures) c.append_recoded.ensures.written

pub returns-in-Tag-clause-written : goal.returns-in-Tag-clause-written
returns-in-Tag-clause-written c = rw (c.in-Tag.is, ← c.epc-epc-in-Tag.ensures) c.append_recoded-in-Tag.ensures.written

pub returns-in-Pure-clause-written : goal.returns-in-Pure-clause-written
returns-in-Pure-clause-written c = rw (c.in-Pure.is, ← c.epc-epc-in-Pure.ensures) c.append_recoded-in-Pure.ensures.written

pub append_raw_pairs-requires : goal.append_raw_pairs-requires
append_raw_pairs-requires c =
    let slice = listed c.as_slice.result.now c.in_ok-pairs-in-Raw.pairs.serial c.as_slice.ensures in
    rw (c.ais.ensures.rows, slice) c.in_ok-pairs-in-Raw.ensures.in_order

pub returns-in_ok-append_link-in-Link-clause-written : goal.returns-in_ok-append_link-in-Link-clause-written
returns-in_ok-append_link-in-Link-clause-written c = λ prefixes identity laid.
    let linked = rw c.as_bytes.ensures at (c.in_ok-append_link-in-Link.ensures.written identity laid) in
    rw c.in-Link.is (spelled c.args.options.now.stem identity, linked, refl)

pub returns-in_ok-append_link-in-Canon-clause-written : goal.returns-in_ok-append_link-in-Canon-clause-written
returns-in_ok-append_link-in-Canon-clause-written c = λ prefixes identity laid.
    let linked = rw c.as_bytes-in-Canon.ensures.value at (c.in_ok-append_link-in-Canon.ensures.written identity laid) in
    rw c.in-Canon.is (canonical_link identity, linked, refl)
