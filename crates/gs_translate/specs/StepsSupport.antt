-- Definitions for proofs and private functions, in addition to Steps.antt.
use Rattle.std.specs.Prelude.{◌≡◌}

-- trusted, own: holds if `Fact` holds of at most one value
abbrev pub HasOne : {X : Type 0} → (X → Type 0) → Type 0
HasOne {X = X} Fact = (one other : X) → Fact one → Fact other → one ≡ other

-- trusted, own: holds if `Fact` holds of some value
abbrev pub HasSome : {X : Type 0} → (X → Type 0) → Type 0
HasSome {X = X} Fact = (x : X) × Fact x
