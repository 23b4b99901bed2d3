-- The values of filters, by which tags are sorted out: TDS 2.0, section 10.
use Rattle.std.specs.Prelude.{◌≡◌, ℕ, ◌+◌, ◌≤◌, List, [], ◌∷◌}

-- holds if this is one digit of 0 to 7
pub record IsFilter (value : List ℕ) : Type 0 where
  pub number : ℕ
  pub small : number ≤ 7
  pub text : value ≡ (48 + number) ∷ []
