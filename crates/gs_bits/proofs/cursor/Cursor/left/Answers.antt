use Rattle.gs_bits.specs.PackedBits.{packed_bits}
use Rattle.std.proofs.Common.{◌<◌, ap, length, arith, length-drop}
use Rattle.std.proofs.lemmas.List.Elements.{All-drop}
use Rattle.gs_bits.proofs.PackedBits.{length-packed, AreBits-packed}
use Rattle.gs_bits.proofs.cursor.Cursor.left.Goals as goal

pub returns-clause-count : goal.returns-clause-count
returns-clause-count g c =
    let packed = length-packed c.self.inside.len c.self.inside.bytes.now c.self.invariant.1 in
    let rest = length-drop c.self.inside.at (packed_bits c.self.inside.len c.self.inside.bytes.now) in
    let whole = ap length c.self.view_is in
    omega arith

pub returns-clause-bits : goal.returns-clause-bits
returns-clause-bits g c = rw (← c.self.view_is) (All-drop (λ b. b < 2) c.self.inside.at (packed_bits c.self.inside.len c.self.inside.bytes.now) (AreBits-packed c.self.inside.len c.self.inside.bytes.now))
