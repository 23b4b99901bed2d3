use Rattle.std.proofs.Common.{◌≡◌, ◌++◌, drop}
use Rattle.std.specs.List.{flat_map}
use Rattle.gs_bits.specs.Bits.{bits_of}
use Rattle.gs_grammar.proofs.bit_writer.push_characters.Given as goal

abbrev pub invariant-loop-character : goal.invariant-loop-character
invariant-loop-character g l =
    l.out ++ flat_map (bits_of 7) (drop l.character-index l.value) ≡ l.initial.out ++ flat_map (bits_of 7) l.value
