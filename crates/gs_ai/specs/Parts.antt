-- The parts that the value of an application identifier is made of: GS1 General Specifications, section 3.2, whose
-- formats these restate.
use Rattle.std.specs.Prelude.{◌≡◌, ◌≢◌, ℕ, ◌+◌, ◌/◌, ◌%◌, Bool, true, false, ◌==◌, ◌&&◌, nat_le, nat_lt, if◌then◌else◌, List, [], ◌∷◌, ◌++◌, codes}
use Rattle.gs_chars.specs.Characters.{is_digit, is_in_set82}
use Rattle.gs_ai.specs.declared.part.Part.{Part}
use Rattle.gs_ai.specs.declared.part.Part.TheVariants.{Zero, Num, NumCheck, NumUpTo, NumOpt, Set, SetOpt, Date, Other}
use Rattle.gs_ai.specs.declared.part.Role.{Role}
use Rattle.gs_ai.specs.declared.part.Role.TheVariants as role

-- trusted, own: the text of a number below 100 in decimal, without leading zeros
abbrev pub number_text : ℕ → List ℕ
number_text k = if nat_lt k 10 then (48 + k) ∷ [] else (48 + k / 10) ∷ (48 + k % 10) ∷ []

-- trusted, GS1 General Specifications, section 3.2: holds if the part is not `Other` and its number of characters is allowed
abbrev pub is_part : Part → Bool
is_part Zero = true
is_part (Num k) = nat_le 1 k && nat_le k 18
is_part (NumCheck k) = nat_le 2 k && nat_le k 18
is_part (NumUpTo k) = nat_le 1 k && nat_le k 18
is_part (NumOpt k) = nat_le 1 k && nat_le k 18
is_part (Set k) = nat_le 1 k && nat_le k 90
is_part (SetOpt k) = nat_le 1 k && nat_le k 90
is_part Date = true
is_part Other = false

-- trusted, own: the text of a part of the list
abbrev pub part_text : Part → List ℕ
part_text Zero = codes "zero"
part_text (Num k) = codes "n" ++ number_text k
part_text (NumCheck k) = codes "n" ++ number_text k ++ codes "c"
part_text (NumUpTo k) = codes "n.." ++ number_text k
part_text (NumOpt k) = codes "n.." ++ number_text k ++ codes "?"
part_text (Set k) = codes "x.." ++ number_text k
part_text (SetOpt k) = codes "x.." ++ number_text k ++ codes "?"
part_text Date = codes "date"
part_text Other = []

-- trusted, own: holds if the part is written with `..`
abbrev pub is_open : Part → Bool
is_open (NumUpTo _) = true
is_open (NumOpt _) = true
is_open (Set _) = true
is_open (SetOpt _) = true
is_open _ = false

-- trusted, GS1 General Specifications, section 3.2: the fewest characters of a part
abbrev pub least_length : Part → ℕ
least_length Zero = 1
least_length (Num k) = k
least_length (NumCheck k) = k
least_length (NumUpTo _) = 1
least_length (NumOpt _) = 0
least_length (Set _) = 1
least_length (SetOpt _) = 0
least_length Date = 6
least_length Other = 0

-- trusted, GS1 General Specifications, section 3.2: the most characters of a part
abbrev pub greatest_length : Part → ℕ
greatest_length Zero = 1
greatest_length (Num k) = k
greatest_length (NumCheck k) = k
greatest_length (NumUpTo k) = k
greatest_length (NumOpt k) = k
greatest_length (Set k) = k
greatest_length (SetOpt k) = k
greatest_length Date = 6
greatest_length Other = 0

-- trusted, GS1 General Specifications, section 3.2: holds if the character `c` may be in the part
abbrev pub is_of_part : Part → ℕ → Bool
is_of_part Zero c = c == 48
is_of_part (Num _) c = is_digit c
is_of_part (NumCheck _) c = is_digit c
is_of_part (NumUpTo _) c = is_digit c
is_of_part (NumOpt _) c = is_digit c
is_of_part (Set _) c = is_in_set82 c
is_of_part (SetOpt _) c = is_in_set82 c
is_of_part Date c = is_digit c
is_of_part Other _ = false

-- trusted, own: the text of a role
abbrev pub role_text : Role → List ℕ
role_text role.Key = codes "key"
role_text role.Qualifier = codes "qualifier"
role_text role.Attribute = codes "attribute"
role_text role.Other = []

-- trusted, own: holds if no role, except perhaps `Other`, is written as `text`
abbrev pub WritesNoRole : List ℕ → Type 0
WritesNoRole text = (r : Role) → r ≢ role.Other → role_text r ≡ text → ⊥
