-- A value without a percent sign spells itself.
use Rattle.std.proofs.Common.{◌≡◌, ℕ, ◌==◌, true, false, List, [], ◌∷◌, length, Some, None, refl, ap, arith, inl, inr}
use Rattle.std.specs.List.{position_or_len}
use Rattle.percent_encoding.specs.Percent.{percent_decode}
use Rattle.gs_chars.proofs.TruthsAndLists.{true_or_false}
use Rattle.gs_chars.specs.Characters.{is_byte}
use Rattle.gs_dlink.specs.Values.{are_escapes}
use Rattle.gs_dlink.specs.ValuesSupport.{unescaped}

first_plain : (c : ℕ) (text : List ℕ) → position_or_len (is_byte 37) (c ∷ text) ≡ length (c ∷ text)
    → ((c == 37) ≡ false) × (position_or_len (is_byte 37) text ≡ length text)
first_plain c text h = elim (true_or_false (c == 37)) [
  | inl t ↦ absurd (let g = rw t at h in omega arith)
  | inr t ↦ let g = rw t at h in (t, omega arith)
]

plain_escapes : (text : List ℕ) → position_or_len (is_byte 37) text ≡ length text → are_escapes text ≡ true
plain_escapes [] h = refl
plain_escapes (c ∷ text) h = let p = first_plain c text h in rw p.0 (plain_escapes text p.1)

plain_decodes : (text : List ℕ) → position_or_len (is_byte 37) text ≡ length text → percent_decode text ≡ text
unfolding percent_decode
plain_decodes [] h = refl
plain_decodes (b ∷ []) h = refl
plain_decodes (b ∷ c ∷ []) h = refl
plain_decodes (b ∷ high ∷ low ∷ rest) h =
    let p = first_plain b (high ∷ low ∷ rest) h in
    rw p.0 (ap (λ t. b ∷ t) (plain_decodes (high ∷ low ∷ rest) p.1))

pub plain_spelled : (text : List ℕ) → position_or_len (is_byte 37) text ≡ length text → Some text ≡ unescaped text
plain_spelled text h = rw (plain_escapes text h, plain_decodes text h) refl

-- the search in a text decides whether its percent signs begin escapes
pub spelled : (text value : List ℕ) → Some value ≡ unescaped text → (are_escapes text ≡ true) × (value ≡ percent_decode text)
spelled text value h = elim (true_or_false (are_escapes text)) [
  | inl t ↦ let g = rw t at h in (t, (let same : value ≡ percent_decode text = cc in same))
  | inr t ↦ absurd (let g = rw t at h in let bad : Some value ≡ None = g in cc)
]

pub not_spelled : (text : List ℕ) → None ≡ unescaped text → are_escapes text ≡ false
not_spelled text h = elim (true_or_false (are_escapes text)) [
  | inl t ↦ absurd (let g = rw t at h in let bad : None ≡ Some (percent_decode text) = g in cc)
  | inr t ↦ t
]
