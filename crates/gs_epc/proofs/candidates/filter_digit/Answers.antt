use Rattle.std.proofs.Common.{◌≡◌, ◌∷◌, ◌+◌, ◌-◌, ◌≤◌, ℕ, decimal, [], zero, suc, take, drop, refl, ◌∙◌, arith}
use Rattle.std.proofs.Common.{Some, sym}
use Rattle.std.specs.Prelude.{Option}
use Rattle.std.proofs.lemmas.Fmt.{decimal_digit}
use Rattle.std.specs.Option.{option_map_or}
use Rattle.gs_epc.specs.Candidates.{HasFilter}
use Rattle.gs_epc.proofs.candidates.filter_digit.Goals as goal

-- the one digit of a filter value, out of all of them
digit_at : (filter : ℕ) → filter ≤ 7 → take 1 (take (8 - filter) (drop filter (48 ∷ 49 ∷ 50 ∷ 51 ∷ 52 ∷ 53 ∷ 54 ∷ 55 ∷ []))) ≡ (48 + filter) ∷ []
digit_at zero small = refl
digit_at (suc zero) small = refl
digit_at (suc (suc zero)) small = refl
digit_at (suc (suc (suc zero))) small = refl
digit_at (suc (suc (suc (suc zero)))) small = refl
digit_at (suc (suc (suc (suc (suc zero))))) small = refl
digit_at (suc (suc (suc (suc (suc (suc zero)))))) small = refl
digit_at (suc (suc (suc (suc (suc (suc (suc zero))))))) small = refl
digit_at (suc (suc (suc (suc (suc (suc (suc (suc n)))))))) small = absurd (omega arith)

digit : (given : Option ℕ) (filter at : ℕ) → given ≡ Some filter → HasFilter given → at ≡ filter
    → take 1 (take (8 - at) (drop at (48 ∷ 49 ∷ 50 ∷ 51 ∷ 52 ∷ 53 ∷ 54 ∷ 55 ∷ []))) ≡ option_map_or decimal given []
digit given filter at is has same =
    let small : filter ≤ 7 = rw is at has in
    rw (is, same) (digit_at filter small ∙ sym (decimal_digit filter (omega arith)))

pub returns : goal.returns
returns c = digit _ c.in-Some.filter c.from.result c.in-Some.is c.requires c.from.ensures
