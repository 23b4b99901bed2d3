-- The part of a list from a place on, and the part before it.
use Rattle.std.proofs.Common.{◌≡◌, ℕ, ◌<◌, ◌+◌, List, [], ◌∷◌, length, get_or, drop, zero, suc, arith, add-one}

-- the first item of the rest, and the items after it
pub record Parts {X : Type 0} (xs rest : List X) (x d : X) (n : ℕ) : Type 0 where
  pub within : n < length xs
  pub here : get_or xs n d ≡ x
  pub others : rest ≡ drop (n + 1) xs

pub part_at : {X : Type 0} (xs rest : List X) (x d : X) (n : ℕ) → x ∷ rest ≡ drop n xs → Parts xs rest x d n
part_at [] rest x d zero e = absurd (let f : x ∷ rest ≡ [] = e in cc)
part_at [] rest x d (suc n) e = absurd (let f : x ∷ rest ≡ [] = e in cc)
part_at (y ∷ xs) rest x d zero e =
    let f : x ∷ rest ≡ y ∷ xs = e in
    let first : y ≡ x = cc in
    let others : rest ≡ xs = cc in
    record { within = omega arith; here = first; others = others }
part_at (y ∷ xs) rest x d (suc n) e =
    let r = part_at xs rest x d n e in
    record { within = let l = r.within in omega arith; here = r.here; others = rw add-one (rw add-one at r.others) }
