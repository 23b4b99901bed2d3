use Rattle.std.proofs.Common.{◌≡◌, Err, sym, ap, ◌∙◌, refl}
use Rattle.gs_bits.specs.HexText.{FirstBadDigit}
use Rattle.gs_bits.proofs.HexBits.{decoded, rejected, first_bad_same, no_bad_digit}
use Rattle.gs_bits.proofs.hex_text.decode.Goals as goal

pub returns-in-Ok-clause-bad : goal.returns-in-Ok-clause-bad
returns-in-Ok-clause-bad c =
    let facts = decoded _ _ _ _ c.requires c.decode_to_slice.ensures.value c.in-Ok.is in
    λ place. (λ h. cc, λ bad. absurd (no_bad_digit _ place facts.0 bad))

pub returns-in-Ok-clause-digits : goal.returns-in-Ok-clause-digits
returns-in-Ok-clause-digits c =
    let facts = decoded _ _ _ _ c.requires c.decode_to_slice.ensures.value c.in-Ok.is in
    (λ h. facts.0, λ h. refl)

pub returns-in-Ok-clause-bits : goal.returns-in-Ok-clause-bits
returns-in-Ok-clause-bits c = (decoded _ _ _ _ c.requires c.decode_to_slice.ensures.value c.in-Ok.is).1

pub unreachable-requires : goal.unreachable-requires
unreachable-requires c =
    let facts = rejected _ _ _ _ c.requires c.decode_to_slice.ensures.value c.in-Err.error c.in-Err.is in
    c.in_default.not-InvalidHexCharacter _ _ facts.1

pub returns-in-InvalidHexCharacter-clause-bad : goal.returns-in-InvalidHexCharacter-clause-bad
returns-in-InvalidHexCharacter-clause-bad c =
    let facts = rejected _ _ _ _ c.requires c.decode_to_slice.ensures.value c.in-Err.error c.in-Err.is in
    let same : facts.0 ≡ c.in-InvalidHexCharacter.index = let e = sym facts.1 ∙ c.in-InvalidHexCharacter.is in cc in
    let bad : FirstBadDigit c.args.text.now c.in-InvalidHexCharacter.index = rw (← same) facts.2 in
    λ place. (
      λ h. let e : c.in-InvalidHexCharacter.index ≡ place = cc in rw (← e) bad,
      λ other. ap Err (first_bad_same _ _ place bad other),
    )

pub returns-in-InvalidHexCharacter-clause-digits : goal.returns-in-InvalidHexCharacter-clause-digits
returns-in-InvalidHexCharacter-clause-digits c =
    let facts = rejected _ _ _ _ c.requires c.decode_to_slice.ensures.value c.in-Err.error c.in-Err.is in
    (λ h. cc, λ digits. absurd (no_bad_digit _ facts.0 digits facts.2))
