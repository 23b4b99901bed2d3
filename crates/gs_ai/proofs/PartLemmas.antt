-- The facts that the parts give about the start of a value.
use Rattle.std.proofs.Common.{◌≡◌, ℕ, ◌+◌, not, List, [], ◌∷◌, length, take, drop, map, position, Option, Some, None, refl, option_map}
use Rattle.std.specs.Option.{option_or}
use Rattle.gs_ai.specs.declared.part.Part.{Part}
use Rattle.gs_ai.specs.Parts.{greatest_length, is_of_part}
use Rattle.gs_ai.specs.Values.{pieces, wrong_character}
use Rattle.gs_chars.proofs.Searches.{position-append, position-map}
use Rattle.std.specs.List.{flat_map}

abbrev pub wrong_in : Part → List ℕ → Option ℕ
wrong_in p piece = position (λ c. not (is_of_part p c)) piece

length_fit : (p : Part) (piece : List ℕ) → length (map (is_of_part p) piece) ≡ length piece
length_fit p piece = by piece
  where
    by : (cs : List ℕ) → length (map (is_of_part p) cs) ≡ length cs
    by [] = refl
    by (c ∷ cs) = rw (by cs)

pub wrong-cons : (p : Part) (ps : List Part) (value : List ℕ)
    → wrong_character (p ∷ ps) value ≡ option_or (wrong_in p (take (greatest_length p) value)) (option_map (λ i. length (take (greatest_length p) value) + i) (wrong_character ps (drop (greatest_length p) value)))
wrong-cons p ps value =
    let piece = take (greatest_length p) value in
    let parts = position-append not (map (is_of_part p) piece) (flat_map (λ piece. map (is_of_part piece.0) piece.1) (pieces ps (drop (greatest_length p) value))) in
    rw (parts, position-map not (is_of_part p) piece, length_fit p piece)

pub wrong_here : (p : Part) (ps : List Part) (value piece : List ℕ) (i : ℕ) → piece ≡ take (greatest_length p) value
    → wrong_in p piece ≡ Some i → wrong_character (p ∷ ps) value ≡ Some i
wrong_here p ps value piece i e h = let h' = rw e at h in rw (wrong-cons p ps value, h')

pub wrong_later : (p : Part) (ps : List Part) (value piece rest : List ℕ) (i : ℕ) → piece ≡ take (greatest_length p) value
    → rest ≡ drop (greatest_length p) value → wrong_in p piece ≡ None → wrong_character ps rest ≡ Some i
    → wrong_character (p ∷ ps) value ≡ Some (length piece + i)
wrong_later p ps value piece rest i e f h k = let h' = rw e at h in let k' = rw f at k in rw (wrong-cons p ps value, h', k', e)

pub wrong_nowhere : (p : Part) (ps : List Part) (value piece rest : List ℕ) → piece ≡ take (greatest_length p) value
    → rest ≡ drop (greatest_length p) value → wrong_in p piece ≡ None → wrong_character ps rest ≡ None
    → wrong_character (p ∷ ps) value ≡ None
wrong_nowhere p ps value piece rest e f h k = let h' = rw e at h in let k' = rw f at k in rw (wrong-cons p ps value, h', k')

pub neither : (a b : Option ℕ) → option_or a b ≡ None → (a ≡ None) × (b ≡ None)
neither None b e = (refl, e)
neither (Some i) b e = absurd (let f : Some i ≡ None = e in cc)

pub not_mapped : (f : ℕ → ℕ) (a : Option ℕ) → option_map f a ≡ None → a ≡ None
not_mapped f None e = refl
not_mapped f (Some i) e = absurd (let g : Some (f i) ≡ None = e in cc)
