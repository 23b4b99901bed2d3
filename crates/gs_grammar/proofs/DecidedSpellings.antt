-- It is decidable of each list whether it spells a value.
use Rattle.std.proofs.Common.{◌≡◌, ℕ, ◌<◌, ◌≤◌, ◌+◌, ◌*◌, ◌/◌, ◌%◌, ◌⊎◌, Bool, true, false, List, [], ◌∷◌, length, take, drop, zero, suc, Option, Some, None, Decides, bytes_eq, refl, sym, ◌∙◌, ap, subst, inl, inr, arith}
use Rattle.std.proofs.lemmas.Bool.{cases_eq}
use Rattle.std.proofs.lemmas.Bool.Decides.{nat_tests}
use Rattle.std.proofs.lemmas.Slice.Eq.{bytes_eq-Decides}
use Rattle.std.proofs.lemmas.List.{length-drop, length-take-le}
use Rattle.gs_chars.specs.Escapes.{is_plain, is_escaped, hex_value, BeginsWithSpelling}
use Rattle.gs_chars.proofs.TruthsAndLists.{true_or_not}
use Rattle.gs_chars.proofs.Spellings.{unspelled, character_of}
use Rattle.gs_grammar.specs.Words.{SpellsEach, SpellsMany}
use Rattle.gs_grammar.proofs.SpellingLemmas.{spelling_bounds, Counts, counts_start, counts_step, counts_end, counts_none}

-- a test decides a fact
pub known : (b : Bool) (fact : Type 0) → Decides b fact → fact ⊎ (fact → ⊥)
known true fact d = inl (d.0 refl)
known false fact d = inr (λ h. let f : false ≡ true = d.1 h in cc)

pub same_list : (w v : List ℕ) → (w ≡ v) ⊎ (w ≡ v → ⊥)
same_list w v = known (bytes_eq w v) (w ≡ v) (bytes_eq-Decides w v)

-- the spelling at the start of a list, if it has one
record Front (w : List ℕ) : Type 0 where
  c : ℕ
  len : ℕ
  begins : BeginsWithSpelling w c len

abbrev HasNoFront : List ℕ → Type 0
HasNoFront w = (c len : ℕ) → BeginsWithSpelling w c len → ⊥

front_of_plain : (x : ℕ) (rest : List ℕ) → is_plain x ≡ true → Front (x ∷ rest)
front_of_plain x rest p = record { c = x; len = 1; begins = record { within = omega arith; spelled = inl (p, refl) } }

hex_below : (h a : ℕ) → hex_value h ≡ Some a → a < 16
hex_below h a e = grind (arith, nat_tests)

front_of_escape : (h l a b : ℕ) (more : List ℕ) → hex_value h ≡ Some a → hex_value l ≡ Some b → is_escaped (16 * a + b) ≡ true → Front (37 ∷ h ∷ l ∷ more)
front_of_escape h l a b more e f p =
    let small = hex_below l b f in
    let high : a ≡ (16 * a + b) / 16 = omega arith in
    let low : b ≡ (16 * a + b) % 16 = omega arith in
    record {
      c = 16 * a + b;
      len = 3;
      begins = record { within = omega arith; spelled = inr (p, record { high = h; low = l; high_digit = e ∙ ap Some high; low_digit = f ∙ ap Some low; text = refl }) };
    }

no_percent : (x h l : ℕ) (more : List ℕ) → is_plain x ≡ false → (x ≡ 37 → ⊥) → HasNoFront (x ∷ h ∷ l ∷ more)
no_percent x h l more p n = unspelled (x ∷ h ∷ l ∷ more) p (λ c s q a b k. n q)

no_high : (x h l : ℕ) (more : List ℕ) → is_plain x ≡ false → hex_value h ≡ None → HasNoFront (x ∷ h ∷ l ∷ more)
no_high x h l more p e = unspelled (x ∷ h ∷ l ∷ more) p (λ c s q a b k. let f : hex_value h ≡ Some (c / 16) = a in let g : None ≡ Some (c / 16) = sym e ∙ f in cc)

no_low : (x h l : ℕ) (more : List ℕ) → is_plain x ≡ false → hex_value l ≡ None → HasNoFront (x ∷ h ∷ l ∷ more)
no_low x h l more p e = unspelled (x ∷ h ∷ l ∷ more) p (λ c s q a b k. let f : hex_value l ≡ Some (c % 16) = b in let g : None ≡ Some (c % 16) = sym e ∙ f in cc)

no_escaped : (x h l a b : ℕ) (more : List ℕ) → is_plain x ≡ false → hex_value h ≡ Some a → hex_value l ≡ Some b
    → (is_escaped (16 * a + b) ≡ true → ⊥) → HasNoFront (x ∷ h ∷ l ∷ more)
no_escaped x h l a b more p e f n = unspelled (x ∷ h ∷ l ∷ more) p (λ c s q high low k.
    let u : hex_value h ≡ Some (c / 16) = high in
    let v : hex_value l ≡ Some (c % 16) = low in
    let same = character_of c a b (sym e ∙ u) (sym f ∙ v) in
    n (ap is_escaped same ∙ k))

escape_front : (x h l : ℕ) (more : List ℕ) (high low : Option ℕ) → is_plain x ≡ false → x ≡ 37 → hex_value h ≡ high → hex_value l ≡ low
    → Front (x ∷ h ∷ l ∷ more) ⊎ HasNoFront (x ∷ h ∷ l ∷ more)
escape_front x h l more None low p q e f = inr (no_high x h l more p e)
escape_front x h l more (Some a) None p q e f = inr (no_low x h l more p f)
escape_front x h l more (Some a) (Some b) p q e f = elim (true_or_not (is_escaped (16 * a + b))) as
    (λ _. Front (x ∷ h ∷ l ∷ more) ⊎ HasNoFront (x ∷ h ∷ l ∷ more)) [
      | inl k ↦ inl (subst (λ (y : ℕ). Front (y ∷ h ∷ l ∷ more)) (sym q) (front_of_escape h l a b more e f k))
      | inr n ↦ inr (no_escaped x h l a b more p e f n)
    ]

long_front : (x h l : ℕ) (more : List ℕ) → is_plain x ≡ false → Front (x ∷ h ∷ l ∷ more) ⊎ HasNoFront (x ∷ h ∷ l ∷ more)
long_front x h l more p = elim (cases_eq x 37) as (λ _. Front (x ∷ h ∷ l ∷ more) ⊎ HasNoFront (x ∷ h ∷ l ∷ more)) [
  | inl q ↦ escape_front x h l more (hex_value h) (hex_value l) p q refl refl
  | inr n ↦ inr (no_percent x h l more p n)
]

not_plain : (w : List ℕ) (x : ℕ) → is_plain x ≡ false → Front (x ∷ w) ⊎ HasNoFront (x ∷ w)
not_plain [] x p = inr (unspelled (x ∷ []) p (λ c s q a b k. absurd (omega arith)))
not_plain (h ∷ []) x p = inr (unspelled (x ∷ h ∷ []) p (λ c s q a b k. absurd (omega arith)))
not_plain (h ∷ l ∷ more) x p = long_front x h l more p

by_first : (x : ℕ) (w : List ℕ) (plain : Bool) → is_plain x ≡ plain → Front (x ∷ w) ⊎ HasNoFront (x ∷ w)
by_first x w true p = inl (front_of_plain x w p)
by_first x w false p = not_plain w x p

empty_front : (w : List ℕ) → length w ≡ 0 → HasNoFront w
empty_front w e c len b =
    let s = spelling_bounds c (take len w) b.spelled in
    let l = length-take-le len w b.within in
    let k = b.within in
    omega arith

front_decided : (w : List ℕ) → Front w ⊎ HasNoFront w
front_decided [] = inr (empty_front [] refl)
front_decided (x ∷ w) = by_first x w (is_plain x) refl

-- the characters that a list spells, by its first spelling and then the rest
pub record Spelled (w : List ℕ) : Type 0 where
  pub n : ℕ
  pub many : SpellsMany n w

abbrev pub IsUnspelled : List ℕ → Type 0
IsUnspelled w = (u : List ℕ) → SpellsEach u w → ⊥

shorter : (fuel c len : ℕ) (rest : List ℕ) → length rest ≤ suc fuel → BeginsWithSpelling rest c len → length (drop len rest) ≤ fuel
shorter fuel c len rest h b =
    let s = spelling_bounds c (take len rest) b.spelled in
    let l = length-take-le len rest b.within in
    let d = length-drop len rest in
    let k = b.within in
    omega arith

no_fuel : (w rest : List ℕ) (n : ℕ) → Counts w rest n → length rest ≤ 0 → Spelled w ⊎ IsUnspelled w
no_fuel w rest n k h = inl (record { n = n; many = counts_end w rest n k (omega arith) })

spelled_from : (fuel : ℕ) (w rest : List ℕ) (n : ℕ) → length rest ≤ fuel → Counts w rest n → Spelled w ⊎ IsUnspelled w
spelled_from zero w rest n h k = no_fuel w rest n k h
spelled_from (suc fuel) w rest n h k = elim (cases_eq (length rest) 0) as (λ _. Spelled w ⊎ IsUnspelled w) [
  | inl e ↦ inl (record { n = n; many = counts_end w rest n k e })
  | inr some ↦ elim (front_decided rest) as (λ _. Spelled w ⊎ IsUnspelled w) [
    | inl f ↦ spelled_from fuel w (drop f.len rest) (n + 1) (shorter fuel f.c f.len rest h f.begins) (counts_step w rest n f.c f.len k f.begins)
    | inr none ↦ inr (counts_none w rest n k (omega arith) none)
  ]
]

pub spelled_decided : (w : List ℕ) → Spelled w ⊎ IsUnspelled w
spelled_decided w = spelled_from (length w) w w 0 (omega arith) (counts_start w)
