use Rattle.std.proofs.Common.{◌-◌, ◌*◌, ◌/◌, ◌%◌, ◌^◌, ◌<◌, ◌∙◌, ℕ, get_or, arith, ap}
use Rattle.gs_bits.proofs.EightBytes.{number_in_eight}
use Rattle.gs_bits.proofs.packed_bits.number_in.Goals as goal

pub returns-in-Some : goal.returns-in-Some
returns-in-Some c =
    let small : (i : ℕ) → get_or c.args.bytes.now i 0 < 256 = λ i. let h = c.type_inv.bytes i in omega arith in
    ap (λ v. v * 2 ^ (c.args.from % 8) % 2 ^ 64 / 2 ^ (64 - c.args.n)) c.from_be_bytes.ensures
    ∙ number_in_eight c.args.from c.args.n c.args.bytes.now c.in-Some.eight.now (omega arith) small c.in-Some.ensures.cases
