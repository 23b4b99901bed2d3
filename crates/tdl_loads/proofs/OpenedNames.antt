-- The names of files that were opened.
use Rattle.std.proofs.Common.{◌≡◌, ℕ, List, length, ◌∙◌, ap, append_assoc, ◌++◌, ◌+◌, take}
use Rattle.std.proofs.Math.Seq.{take-append-add, take-length}
use Rattle.std.specs.Prelude.{IfOk, Result, Ok, Err}
use Rattle.tdl_loads.specs.Loads.{OpensFirst}

-- names that were added, and then others
pub added_both : (before between now one other : List (List ℕ)) → between ≡ before ++ one → now ≡ between ++ other → now ≡ before ++ (one ++ other)
added_both before between now one other first more = more ∙ ap (λ names. names ++ other) first ∙ append_assoc before one other

-- a fact that does not depend on the given value
pub whatever_given : {A E : Type 0} (result : Result A E) (fact : Type 0) → fact → IfOk result (λ _. fact)
whatever_given (Ok a) fact f = f
whatever_given (Err e) fact f = tt

pub opens_all : (names before now : List (List ℕ)) → now ≡ before ++ names → OpensFirst names before now
opens_all names before now adds = (length names, rw (take-length names) adds)

-- names that were added, and then the first of others
pub opens_both : (before between now one other : List (List ℕ)) → between ≡ before ++ one → OpensFirst other between now → OpensFirst (one ++ other) before now
opens_both before between now one other first more =
    (length one + more.0, rw (take-append-add one other more.0) (added_both before between now one (take more.0 other) first more.1))

-- names that were added, and then others if something is given
pub adds_given : {A E : Type 0} (result : Result A E) (before between now one other : List (List ℕ))
    → between ≡ before ++ one → IfOk result (λ _. now ≡ between ++ other) → IfOk result (λ _. now ≡ before ++ (one ++ other))
adds_given (Ok a) before between now one other first more = added_both before between now one other first more
adds_given (Err e) before between now one other first more = tt
