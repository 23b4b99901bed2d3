-- Which symbols spell a character.
use Rattle.std.proofs.Common.{◌≡◌, ◌⊎◌, ℕ, ◌<◌, ◌/◌, ◌%◌, ◌||◌, ◌&&◌, eqb, leb, not, Bool, true, false, [], ◌∷◌, Some, refl, sym, ◌∙◌, subst, inl, inr, arith}
use Rattle.std.proofs.lemmas.Bool.{cases_eq, agree_below, agree_below_at}
use Rattle.std.proofs.lemmas.Bool.Decides.{nat_tests}
use Rattle.gs_chars.specs.Characters.{is_in_set82}
use Rattle.gs_chars.specs.Escapes.{is_plain, is_escaped, hex_value, Spells}
use Rattle.gs_chars.proofs.TruthsAndLists.{and_first}
use Rattle.gs_grammar.proofs.Packs.{set82_bounds}
use Rattle.gs_grammar_compile.specs.EscapeTables.{plain_ranges, two_ranges, three_ranges}
use Rattle.gs_grammar_compile.proofs.Spread.{InRanges}

abbrev plain_test : ℕ → Bool
plain_test c = (leb 65 c && leb c 90) || (leb 97 c && leb c 122) || (leb 48 c && leb c 59) || (leb 39 c && leb c 46) || eqb c 33 || eqb c 61 || eqb c 95

plain_below : agree_below is_plain plain_test 256 ≡ true
unfolding is_escaped is_in_set82
plain_below = refl

plain_is : (c : ℕ) → c < 256 → is_plain c ≡ plain_test c
plain_is c l = agree_below_at is_plain plain_test 256 c plain_below l

range_test : (c : ℕ) → InRanges plain_ranges c → (plain_test c ≡ true) × (c < 256)
range_test c (inl h) = let a = h.0 in let b = h.1 in (grind (arith, nat_tests), omega arith)
range_test c (inr (inl h)) = let a = h.0 in let b = h.1 in (grind (arith, nat_tests), omega arith)
range_test c (inr (inr (inl h))) = let a = h.0 in let b = h.1 in (grind (arith, nat_tests), omega arith)
range_test c (inr (inr (inr (inl h)))) = let a = h.0 in let b = h.1 in (grind (arith, nat_tests), omega arith)
range_test c (inr (inr (inr (inr (inl h))))) = let a = h.0 in let b = h.1 in (grind (arith, nat_tests), omega arith)
range_test c (inr (inr (inr (inr (inr (inl h)))))) = let a = h.0 in let b = h.1 in (grind (arith, nat_tests), omega arith)
range_test c (inr (inr (inr (inr (inr (inr (inl h))))))) = let a = h.0 in let b = h.1 in (grind (arith, nat_tests), omega arith)
range_test c (inr (inr (inr (inr (inr (inr (inr h))))))) = absurd h

pub range_plain : (c : ℕ) → InRanges plain_ranges c → is_plain c ≡ true
range_plain c h = let t = range_test c h in plain_is c t.1 ∙ t.0

test_range : (c : ℕ) → plain_test c ≡ true → InRanges plain_ranges c
test_range c h = grind (arith, nat_tests)

pub plain_range : (c : ℕ) → is_plain c ≡ true → InRanges plain_ranges c
plain_range c h =
    let small = set82_bounds c (and_first (is_in_set82 c) (not (is_escaped c)) h) in
    let high = small.1 in
    test_range c (sym (plain_is c (omega arith)) ∙ h)

-- the seven escaped characters

abbrev IsOneOf : ℕ → Type 0
IsOneOf c = (c ≡ 34) ⊎ ((c ≡ 37) ⊎ ((c ≡ 38) ⊎ ((c ≡ 47) ⊎ ((c ≡ 60) ⊎ ((c ≡ 62) ⊎ (c ≡ 63))))))

escaped_test : (c : ℕ) → is_escaped c ≡ true → (eqb 34 c || (eqb 37 c || (eqb 38 c || (eqb 47 c || (eqb 60 c || (eqb 62 c || (eqb 63 c || false))))))) ≡ true
unfolding is_escaped
escaped_test c h = h

escaped_one : (c : ℕ) → is_escaped c ≡ true → IsOneOf c
escaped_one c h = let t = escaped_test c h in grind (arith, nat_tests)

one_escaped : (c : ℕ) → IsOneOf c → is_escaped c ≡ true
unfolding is_escaped
one_escaped c (inl e) = rw e refl
one_escaped c (inr (inl e)) = rw e refl
one_escaped c (inr (inr (inl e))) = rw e refl
one_escaped c (inr (inr (inr (inl e)))) = rw e refl
one_escaped c (inr (inr (inr (inr (inl e))))) = rw e refl
one_escaped c (inr (inr (inr (inr (inr (inl e)))))) = rw e refl
one_escaped c (inr (inr (inr (inr (inr (inr e)))))) = rw e refl

-- the digits of their codes

hex_2 : (h : ℕ) → hex_value h ≡ Some 2 → h ≡ 50
hex_2 h e = grind (arith, nat_tests)

hex_3 : (h : ℕ) → hex_value h ≡ Some 3 → h ≡ 51
hex_3 h e = grind (arith, nat_tests)

hex_5 : (h : ℕ) → hex_value h ≡ Some 5 → h ≡ 53
hex_5 h e = grind (arith, nat_tests)

hex_6 : (h : ℕ) → hex_value h ≡ Some 6 → h ≡ 54
hex_6 h e = grind (arith, nat_tests)

hex_12 : (h : ℕ) → hex_value h ≡ Some 12 → (h ≡ 67) ⊎ (h ≡ 99)
hex_12 h e = grind (arith, nat_tests)

hex_14 : (h : ℕ) → hex_value h ≡ Some 14 → (h ≡ 69) ⊎ (h ≡ 101)
hex_14 h e = grind (arith, nat_tests)

hex_15 : (h : ℕ) → hex_value h ≡ Some 15 → (h ≡ 70) ⊎ (h ≡ 102)
hex_15 h e = grind (arith, nat_tests)

-- the two digits after a percent sign
abbrev pub AreDigits : ℕ → ℕ → Type 0
AreDigits h l = ((h ≡ 50) × InRanges two_ranges l) ⊎ ((h ≡ 51) × InRanges three_ranges l)

digits_at : (c d h l : ℕ) → c ≡ d → hex_value h ≡ Some (c / 16) → hex_value l ≡ Some (c % 16) → (hex_value h ≡ Some (d / 16)) × (hex_value l ≡ Some (d % 16))
digits_at c d h l e a b = (rw e at a, rw e at b)

escape_digits : (c h l : ℕ) → IsOneOf c → hex_value h ≡ Some (c / 16) → hex_value l ≡ Some (c % 16) → AreDigits h l
escape_digits c h l (inl e) a b =
    let d = digits_at c 34 h l e a b in
    let second = hex_2 l d.1 in
    inl (hex_2 h d.0, inl (omega arith, omega arith))
escape_digits c h l (inr (inl e)) a b =
    let d = digits_at c 37 h l e a b in
    let second = hex_5 l d.1 in
    inl (hex_2 h d.0, inr (inl (omega arith, omega arith)))
escape_digits c h l (inr (inr (inl e))) a b =
    let d = digits_at c 38 h l e a b in
    let second = hex_6 l d.1 in
    inl (hex_2 h d.0, inr (inl (omega arith, omega arith)))
escape_digits c h l (inr (inr (inr (inl e)))) a b =
    let d = digits_at c 47 h l e a b in
    inl (
      hex_2 h d.0,
      elim (hex_15 l d.1) as (λ _. InRanges two_ranges l) [
        | inl f ↦ inr (inr (inl (omega arith, omega arith)))
        | inr f ↦ inr (inr (inr (inl (omega arith, omega arith))))
      ],
    )
escape_digits c h l (inr (inr (inr (inr (inl e))))) a b =
    let d = digits_at c 60 h l e a b in
    inr (
      hex_3 h d.0,
      elim (hex_12 l d.1) as (λ _. InRanges three_ranges l) [
        | inl f ↦ inl (omega arith, omega arith)
        | inr f ↦ inr (inr (inl (omega arith, omega arith)))
      ],
    )
escape_digits c h l (inr (inr (inr (inr (inr (inl e)))))) a b =
    let d = digits_at c 62 h l e a b in
    inr (
      hex_3 h d.0,
      elim (hex_14 l d.1) as (λ _. InRanges three_ranges l) [
        | inl f ↦ inr (inl (omega arith, omega arith))
        | inr f ↦ inr (inr (inr (inl (omega arith, omega arith))))
      ],
    )
escape_digits c h l (inr (inr (inr (inr (inr (inr e)))))) a b =
    let d = digits_at c 63 h l e a b in
    inr (
      hex_3 h d.0,
      elim (hex_15 l d.1) as (λ _. InRanges three_ranges l) [
        | inl f ↦ inr (inl (omega arith, omega arith))
        | inr f ↦ inr (inr (inr (inl (omega arith, omega arith))))
      ],
    )

pub escaped_digits : (c h l : ℕ) → is_escaped c ≡ true → hex_value h ≡ Some (c / 16) → hex_value l ≡ Some (c % 16) → AreDigits h l
escaped_digits c h l p a b = escape_digits c h l (escaped_one c p) a b

-- the character that two digits after a percent sign spell
abbrev pub Spelt : ℕ → ℕ → Type 0
Spelt h l = (c : ℕ) × Spells c (37 ∷ h ∷ l ∷ [])

spelt : (c h l : ℕ) → IsOneOf c → hex_value h ≡ Some (c / 16) → hex_value l ≡ Some (c % 16) → Spelt h l
spelt c h l p a b = (c, inr (one_escaped c p, record { high = h; low = l; high_digit = a; low_digit = b; text = refl }))

spelt_at : (h l k : ℕ) → l ≡ k → Spelt h k → Spelt h l
spelt_at h l k e s = rw e s

two_spelt : (l : ℕ) → InRanges two_ranges l → Spelt 50 l
two_spelt l (inl r) = let a = r.0 in let b = r.1 in spelt_at 50 l 50 (omega arith) (spelt 34 50 50 (inl refl) refl refl)
two_spelt l (inr (inl r)) = let a = r.0 in let b = r.1 in elim (cases_eq l 53) as (λ _. Spelt 50 l) [
  | inl e ↦ spelt_at 50 l 53 e (spelt 37 50 53 (inr (inl refl)) refl refl)
  | inr n ↦ spelt_at 50 l 54 (omega arith) (spelt 38 50 54 (inr (inr (inl refl))) refl refl)
]
two_spelt l (inr (inr (inl r))) = let a = r.0 in let b = r.1 in spelt_at 50 l 70 (omega arith) (spelt 47 50 70 (inr (inr (inr (inl refl)))) refl refl)
two_spelt l (inr (inr (inr (inl r)))) = let a = r.0 in let b = r.1 in spelt_at 50 l 102 (omega arith) (spelt 47 50 102 (inr (inr (inr (inl refl)))) refl refl)
two_spelt l (inr (inr (inr (inr r)))) = absurd r

three_spelt : (l : ℕ) → InRanges three_ranges l → Spelt 51 l
three_spelt l (inl r) = let a = r.0 in let b = r.1 in spelt_at 51 l 67 (omega arith) (spelt 60 51 67 (inr (inr (inr (inr (inl refl))))) refl refl)
three_spelt l (inr (inl r)) = let a = r.0 in let b = r.1 in elim (cases_eq l 69) as (λ _. Spelt 51 l) [
  | inl e ↦ spelt_at 51 l 69 e (spelt 62 51 69 (inr (inr (inr (inr (inr (inl refl)))))) refl refl)
  | inr n ↦ spelt_at 51 l 70 (omega arith) (spelt 63 51 70 (inr (inr (inr (inr (inr (inr refl)))))) refl refl)
]
three_spelt l (inr (inr (inl r))) = let a = r.0 in let b = r.1 in spelt_at 51 l 99 (omega arith) (spelt 60 51 99 (inr (inr (inr (inr (inl refl))))) refl refl)
three_spelt l (inr (inr (inr (inl r)))) = let a = r.0 in let b = r.1 in elim (cases_eq l 101) as (λ _. Spelt 51 l) [
  | inl e ↦ spelt_at 51 l 101 e (spelt 62 51 101 (inr (inr (inr (inr (inr (inl refl)))))) refl refl)
  | inr n ↦ spelt_at 51 l 102 (omega arith) (spelt 63 51 102 (inr (inr (inr (inr (inr (inr refl)))))) refl refl)
]
three_spelt l (inr (inr (inr (inr r)))) = absurd r

pub digits_spelt : (h l : ℕ) → AreDigits h l → Spelt h l
digits_spelt h l (inl d) = subst (λ (x : ℕ). Spelt x l) (sym d.0) (two_spelt l d.1)
digits_spelt h l (inr d) = subst (λ (x : ℕ). Spelt x l) (sym d.0) (three_spelt l d.1)

-- a percent sign is not a character that is spelled as itself
pub percent_not_plain : InRanges plain_ranges 37 → ⊥
percent_not_plain (inl h) = let a = h.0 in omega arith
percent_not_plain (inr (inl h)) = let a = h.0 in omega arith
percent_not_plain (inr (inr (inl h))) = let a = h.0 in omega arith
percent_not_plain (inr (inr (inr (inl h)))) = let a = h.0 in omega arith
percent_not_plain (inr (inr (inr (inr (inl h))))) = let a = h.1 in omega arith
percent_not_plain (inr (inr (inr (inr (inr (inl h)))))) = let a = h.0 in omega arith
percent_not_plain (inr (inr (inr (inr (inr (inr (inl h))))))) = let a = h.0 in omega arith
percent_not_plain (inr (inr (inr (inr (inr (inr (inr h))))))) = h
