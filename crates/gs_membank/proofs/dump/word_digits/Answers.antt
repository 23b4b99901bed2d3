use Rattle.std.proofs.Common.{ap, arith, length}
use Rattle.gs_membank.proofs.ControlLemmas.{flag_length, pushed_length, word_pushed}
use Rattle.gs_membank.proofs.dump.word_digits.Goals as goal

pub push_flag-requires : goal.push_flag-requires
push_flag-requires c =
    let none = ap length c.new-bits.ensures in
    let a = pushed_length 5 _ _ _ c.push_number.ensures in
    omega arith

pub push_flag-requires-2 : goal.push_flag-requires-2
push_flag-requires-2 c =
    let none = ap length c.new-bits.ensures in
    let a = pushed_length 5 _ _ _ c.push_number.ensures in
    let b = flag_length _ _ _ c.push_flag.ensures in
    omega arith

pub push_flag-requires-3 : goal.push_flag-requires-3
push_flag-requires-3 c =
    let none = ap length c.new-bits.ensures in
    let a = pushed_length 5 _ _ _ c.push_number.ensures in
    let b = flag_length _ _ _ c.push_flag.ensures in
    let d = flag_length _ _ _ c.push_flag-2.ensures in
    omega arith

pub push_number-requires-2-clause-room : goal.push_number-requires-2-clause-room
push_number-requires-2-clause-room c =
    let none = ap length c.new-bits.ensures in
    let a = pushed_length 5 _ _ _ c.push_number.ensures in
    let b = flag_length _ _ _ c.push_flag.ensures in
    let d = flag_length _ _ _ c.push_flag-2.ensures in
    let e = flag_length _ _ _ c.push_flag-3.ensures in
    omega arith

pub to_hex-requires : goal.to_hex-requires
to_hex-requires c =
    let none = ap length c.new-bits.ensures in
    let a = pushed_length 5 _ _ _ c.push_number.ensures in
    let b = flag_length _ _ _ c.push_flag.ensures in
    let d = flag_length _ _ _ c.push_flag-2.ensures in
    let e = flag_length _ _ _ c.push_flag-3.ensures in
    let f = pushed_length 8 _ _ _ c.push_number-2.ensures in
    (omega arith, omega arith)

pub returns : goal.returns
returns c =
    let words = rw c.from.ensures at c.push_number.ensures in
    let attributes = rw c.from-2.ensures at c.push_number-2.ensures in
    rw (word_pushed c.args.word _ _ _ _ _ _ c.new-bits.ensures words c.push_flag.ensures c.push_flag-2.ensures c.push_flag-3.ensures attributes) at c.to_hex.ensures
