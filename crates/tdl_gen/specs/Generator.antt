-- The lines of the generator: EPC URIs of SGTINs (TDS 2.0, section 6.3.1) by the states of a linear congruential generator.
use Rattle.std.specs.Prelude.{ℕ, zero, suc, ◌+◌, ◌-◌, ◌*◌, ◌/◌, ◌%◌, ◌^◌, List, ◌∷◌, ◌++◌, codes, decimal, length, replicate}

-- trusted, own: the state after that many steps from 0
abbrev pub state_after : ℕ → ℕ
state_after zero = 0
state_after (suc n) = (state_after n * 6364136223846793005 + 1442695040888963407) % 2 ^ 64

-- trusted, own: the decimal digits of a number, with leading zeros if it has fewer digits than these
abbrev pub digits_in : ℕ → ℕ → List ℕ
digits_in width n = replicate (width - length (decimal n)) 48 ++ decimal n

-- trusted, own: the pure identity of an SGTIN whose serial is this number, by a state
abbrev pub sgtin_text : ℕ → ℕ → List ℕ
sgtin_text x serial =
    codes "urn:epc:id:sgtin:" ++ digits_in 7 ((x / 2 ^ 40) % 10000000) ++ 46 ∷ digits_in 6 ((x / 2 ^ 20) % 1000000) ++ 46 ∷ decimal serial

-- trusted, TDS 2.0, section 6.3.1: the line of this number, from 0: by the state after one step more, and with the number
-- as its serial
abbrev pub generated_line : ℕ → List ℕ
generated_line k = sgtin_text (state_after (suc k)) k
