-- Texts without the bytes that a barcode scanner may send at the start.
use Rattle.std.proofs.Common.{◌≡◌, ℕ, ◌≤◌, true, false, List, ◌∷◌, length, drop, eqb, find, Option, Some, None, refl, sym, arith}
use Rattle.std.specs.Option.{option_map_or}
use Rattle.std.proofs.lemmas.List.{length-drop}
use Rattle.std.proofs.lemmas.Bool.Decides.{nat_tests}
use Rattle.gs_chars.specs.Characters.{is_digit}
use Rattle.gs_ai.specs.Tables.{begins}
use Rattle.gs_element.specs.Raw.{body_of, identifiers}

-- the body is a part of the text
pub body_shorter : (text : List ℕ) → length (body_of text) ≤ length text
unfolding body_of
body_shorter text = by (find (λ front. begins front text) identifiers)
  where
    by : (r : Option (List ℕ)) → length (option_map_or (λ (front : List ℕ). drop (length front) text) r text) ≤ length text
    by None = omega arith
    by (Some front) = omega (arith, length-drop (length front) text)

-- nothing of the kind is before a digit
pub digit_body : (c : ℕ) (text : List ℕ) → is_digit c ≡ true → body_of (c ∷ text) ≡ c ∷ text
unfolding body_of
digit_body c text digit =
    let no_bracket : eqb 93 c ≡ false = grind (arith, nat_tests) in
    let no_separator : eqb 29 c ≡ false = grind (arith, nat_tests) in
    rw (no_bracket, no_separator) refl

pub digit_first : (text rest : List ℕ) (c : ℕ) → text ≡ c ∷ rest → is_digit c ≡ true → text ≡ body_of text
digit_first text rest c e digit = rw e (sym (digit_body c rest digit))
