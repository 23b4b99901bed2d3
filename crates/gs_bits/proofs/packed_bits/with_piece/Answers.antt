use Rattle.std.proofs.Common.{arith, rules}
use Rattle.std.proofs.lemmas.Nat.{shl-shr}
use Rattle.gs_bits.proofs.PackedBits.{byte_with_piece}
use Rattle.gs_bits.proofs.packed_bits.with_piece.Goals as goal

pub overflow_cast-result-2 : goal.overflow_cast-result-2
overflow_cast-result-2 c =
    let facts = byte_with_piece c.args.byte c.args.room c.args.width c.args.piece (search rules) c.requires.free c.requires.fits c.requires.narrow in
    rw (c.from.ensures, facts.0, facts.1) (omega (arith, facts.2))

pub returns : goal.returns
returns c =
    let facts = byte_with_piece c.args.byte c.args.room c.args.width c.args.piece (search rules) c.requires.free c.requires.fits c.requires.narrow in
    rw (c.from.ensures, facts.0, facts.1) (shl-shr _ _)
