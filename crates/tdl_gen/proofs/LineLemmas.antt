-- How a number is written with zeros before its digits.
use Rattle.std.proofs.Common.{◌≡◌, ℕ, ◌-◌, ◌^◌, [], ◌++◌, false, length, refl, ap, replicate, append-nil, arith}
use Rattle.std.specs.Prelude.{decimal}
use Rattle.std.specs.Fmt.{char_count, format_spec, padded_integral}
use Rattle.tdl_gen.specs.Generator.{digits_in}

no_characters : char_count [] ≡ 0
unfolding char_count
no_characters = refl

less_none : (width len : ℕ) → width - len - 0 - 0 ≡ width - len
less_none width len = omega arith

-- a hole with zeros before the digits
pub zeros_before : (width n : ℕ) → padded_integral (format_spec 32 0 4 width (2 ^ 64 - 1)) false [] (decimal n) ≡ digits_in width n
unfolding padded_integral
zeros_before width n = rw (no_characters, append-nil (decimal n)) (ap (λ many. replicate many 48 ++ decimal n) (less_none width (length (decimal n))))
