use Rattle.std.proofs.Common.{◌+◌, ◌≤◌, ◌∙◌, sym, ap, length, take, refl, arith, length-drop}
use Rattle.gs_bits.specs.Bits.{number_of}
use Rattle.gs_bits.specs.PackedBits.{packed_bits}
use Rattle.gs_bits.proofs.PackedBits.{length-packed, within_packed}
use Rattle.gs_bits.proofs.cursor.Cursor.take.Goals as goal

pub returns-clause-short : goal.returns-clause-short
returns-clause-short g c =
    let cursor = c.self.inside in
    let len = length-packed cursor.len cursor.bytes.now c.self.invariant.1 in
    let rest = length-drop cursor.at (packed_bits cursor.len cursor.bytes.now) in
    let whole = ap length c.self.view_is in
    (λ h. cc, λ h. absurd (omega arith))

pub returns-clause-number : goal.returns-clause-number
returns-clause-number g c =
    let cursor = c.self.inside in
    let within : cursor.at + c.args.n ≤ cursor.len = omega arith in
    c.number_in-number.ensures ∙ ap number_of (sym (within_packed cursor.at c.args.n cursor.len cursor.bytes.now within))
    ∙ ap (λ bits. number_of (take c.args.n bits)) c.self.view_is

pub returns-then-self-n-clause-stays : goal.returns-then-self-n-clause-stays
returns-then-self-n-clause-stays g c = refl
