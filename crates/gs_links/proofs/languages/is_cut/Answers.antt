use Rattle.std.proofs.Common.{◌≡◌, ◌==◌, ℕ, List, [], ◌∷◌, Some, None, slice_get, ap}
use Rattle.gs_links.specs.Languages.{is_cut}
use Rattle.gs_links.proofs.languages.is_cut.Goals as goal

by_first : (rest : List ℕ) (byte : ℕ) → Some byte ≡ slice_get rest 0 → (byte == 45) ≡ is_cut rest
by_first [] byte h = absurd (let g : Some byte ≡ None = h in cc)
by_first (c ∷ rest) byte h = let same : byte ≡ c = (let g : Some byte ≡ Some c = h in cc) in ap (λ n. n == 45) same

pub returns-in-Some : goal.returns-in-Some
returns-in-Some c = by_first c.args.rest.now c.in-Some.byte.now c.in-Some.ensures.value
