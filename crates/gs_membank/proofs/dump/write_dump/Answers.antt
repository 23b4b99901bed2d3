use Rattle.std.proofs.Common.{◌≡◌, ◌/◌, ◌<◌, ◌≤◌, ap, arith, length}
use Rattle.gs_membank.proofs.WriteLemmas.{dump_written, too_long}
use Rattle.gs_membank.proofs.dump.write_dump.Goals as goal

pub returns-then-words-gt-MOST_WORDS : goal.returns-then-words-gt-MOST_WORDS
returns-then-words-gt-MOST_WORDS c =
    let same : length c.as_bytes.result.now ≡ length c.in_ok-encoding.encoding = ap length c.as_bytes.ensures in
    let many : 31 < length c.in_ok-encoding.encoding / 4 = omega arith in
    too_long c.args.set.now c.args.dump.now c.in_ok-encoding.encoding c.kinds.ensures.shaped c.in_ok-encoding.ensures many

pub returns : goal.returns
returns c =
    let same : length c.as_bytes.result.now ≡ length c.in_ok-encoding.encoding = ap length c.as_bytes.ensures in
    let few : length c.in_ok-encoding.encoding / 4 ≤ 31 = omega arith in
    dump_written c.args.set.now c.args.dump.now c.in_ok-encoding.encoding c.in_ok-text.text c.extend_from_slice.new.self c.kinds.ensures.shaped c.in_ok-encoding.ensures few
    (rw same at c.in_ok-text.ensures) (rw c.as_bytes-2.ensures at c.in_ok-extend_from_slice.ensures.appended)
