use Rattle.std.proofs.Common.{◌≡◌, ℕ, ◌-◌, ◌*◌, List, ◌++◌, length, replicate, append_assoc, refl, arith, rules}
use Rattle.std.specs.List.{flat_map}
use Rattle.gs_bits.specs.Bits.{bits_of}
use Rattle.gs_grammar.specs.declared.item.Item.{Item}
use Rattle.gs_grammar.specs.declared.item.Item.TheVariants.{Ascii7}
use Rattle.gs_grammar.specs.Words.{written_word}
use Rattle.gs_grammar.proofs.WritingLemmas.{ascii_held, ascii_room, bits_held, bits_size, lit_bits, room_of}
use Rattle.gs_grammar.proofs.bit_writer.push_bit_word.Goals as goal

pub push_characters-requires : goal.push_characters-requires
push_characters-requires g c =
    let held = ascii_held _ _ _ _ _ c.in-Ascii7.is c.requires.item c.in_ok-number.ensures.reason in
    (search rules, (held.0, room_of _ _ _ _ c.requires.room (rw c.in-Ascii7.is held.1)))

pub push_zeros-requires : goal.push_zeros-requires
push_zeros-requires g c =
    (search rules, ascii_room _ _ _ _ _ _ _ _ _ c.in-Ascii7.is c.from.ensures c.requires.room c.push_characters.ensures (ascii_held _ _ _ _ _ c.in-Ascii7.is c.requires.item c.in_ok-number.ensures.reason).1)

pub push_number-requires : goal.push_number-requires
push_number-requires g c =
    let held = bits_held _ _ _ _ c.in-NumPad.is c.requires.item c.in_ok-number.ensures.reason c.in_ok-number.ensures.number in
    let size = bits_size _ _ c.in-NumPad.is in
    rw c.from-in-NumPad.ensures (search rules, (held.0, (held.1, room_of _ _ _ _ c.requires.room (rw size (omega arith)))))

pub returns-in-NumPad-clause-written : goal.returns-in-NumPad-clause-written
returns-in-NumPad-clause-written g c =
    let held = bits_held _ _ _ _ c.in-NumPad.is c.requires.item c.in_ok-number.ensures.reason c.in_ok-number.ensures.number in
    rw (c.push_number.ensures, c.from-in-NumPad.ensures, held.2) refl

pub returns-in-Fill-clause-written : goal.returns-in-Fill-clause-written
returns-in-Fill-clause-written g c = rw c.in-Fill.is (rw c.from-in-Fill.ensures at c.push_zeros-in-Fill.ensures)

ascii_written : {item : Item} {lo hi bits width : ℕ} (value out characters new : List ℕ) → item ≡ Ascii7 lo hi bits → width ≡ bits
    → characters ≡ out ++ flat_map (bits_of 7) value →
    new ≡ characters ++ replicate (width - 7 * length value) 0 → new ≡ out ++ written_word item value
ascii_written value out characters new is w e n = rw (is, n, e, w) (append_assoc out (flat_map (bits_of 7) value) _)

pub returns-in-Ascii7-clause-written : goal.returns-in-Ascii7-clause-written
returns-in-Ascii7-clause-written g c = ascii_written c.args.value.now _ _ _ c.in-Ascii7.is c.from.ensures c.push_characters.ensures c.push_zeros.ensures

pub returns-in-Lit-clause-written : goal.returns-in-Lit-clause-written
returns-in-Lit-clause-written g c = rw c.in-Lit.is (rw c.as_bytes.ensures at c.push_literal.ensures)

pub push_zeros-requires-in-Fill : goal.push_zeros-requires-in-Fill
push_zeros-requires-in-Fill g c = (search rules, rw c.from-in-Fill.ensures (rw c.in-Fill.is at c.requires.room))

pub push_literal-requires : goal.push_literal-requires
push_literal-requires g c =
    (search rules, (rw c.as_bytes.ensures (lit_bits c.args.item.now c.in-Lit.literal c.in-Lit.is c.requires.item), rw c.as_bytes.ensures (rw c.in-Lit.is at c.requires.room)))
