-- Hexadecimal texts and their bits, a part after the other.
use Rattle.std.proofs.Common.{◌≡◌, ◌*◌, ◌≤◌, ℕ, List, [], ◌∷◌, ◌++◌, length, take, drop, refl, sym, ap, ◌∙◌, arith, length-append, append_assoc}
use Rattle.std.proofs.lemmas.List.{drop_at, length-take-le, take-append-drop}
use Rattle.gs_bits.specs.BitLaws.{length-bits_of}
use Rattle.gs_bits.specs.HexText.{bits_of_hex}
use Rattle.gs_bits.specs.Bits.{bits_of}
use Rattle.gs_chars.specs.Escapes.{hex_value}
use Rattle.std.specs.Prelude.{unwrap_or}

pub hex_length : (text : List ℕ) → length (bits_of_hex text) ≡ 4 * length text
hex_length [] = refl
hex_length (c ∷ text) =
    let whole = length-append (bits_of 4 (unwrap_or (hex_value c) 0)) (bits_of_hex text) in
    let four : length (bits_of 4 (unwrap_or (hex_value c) 0)) ≡ 4 = length-bits_of 4 _ in
    let others = hex_length text in
    omega arith

pub hex_joined : (first second : List ℕ) → bits_of_hex (first ++ second) ≡ bits_of_hex first ++ bits_of_hex second
hex_joined [] second = refl
hex_joined (c ∷ first) second = ap (λ w. bits_of 4 (unwrap_or (hex_value c) 0) ++ w) (hex_joined first second) ∙ sym
    (append_assoc (bits_of 4 (unwrap_or (hex_value c) 0)) (bits_of_hex first) (bits_of_hex second))

-- the bits after four digits
pub hex_behind : (text : List ℕ) → 4 ≤ length text → bits_of_hex (drop 4 text) ≡ drop 16 (bits_of_hex text)
hex_behind text long =
    let parts : bits_of_hex text ≡ bits_of_hex (take 4 text) ++ bits_of_hex (drop 4 text) = ap bits_of_hex (sym (take-append-drop 4 text)) ∙ hex_joined (take 4 text) (drop 4 text) in
    let four = length-take-le 4 text long in
    let sixteen = hex_length (take 4 text) in
    sym (ap (drop 16) parts ∙ drop_at (bits_of_hex (take 4 text)) (bits_of_hex (drop 4 text)) 16 (omega arith))
