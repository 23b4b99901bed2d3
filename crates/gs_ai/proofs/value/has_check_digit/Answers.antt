use Rattle.std.proofs.Common.{◌≡◌, ℕ, ◌-◌, ◌∷◌, [], List, length, min, take, drop, Option, Some, None, Bool, bytes_eq, if◌then◌else◌, sym, ◌∙◌, arith}
use Rattle.std.proofs.lemmas.List.{take_min, drop_min}
use Rattle.gs_chars.specs.Characters.{are_digits}
use Rattle.gs_chars.specs.CheckDigits.{check_digit_of}
use Rattle.gs_ai.specs.Values.{is_checked}
use Rattle.gs_ai.proofs.FitLemmas.{checked}
use Rattle.gs_ai.proofs.value.has_check_digit.Goals as goal

min_other : (m n : ℕ) → min m n ≡ min n m
min_other m n = omega arith

-- like `checked`, with the digits cut at their end or before it
checked_cut : (k n check : ℕ) (r : Bool) (found : Option ℕ) (digits others last tail : List ℕ) → n ≡ min (length digits) (k - 1)
    → others ≡ take n digits → last ≡ drop n digits
    → found ≡ (if are_digits others then Some (check_digit_of others) else None) → found ≡ Some check → tail ≡ check ∷ []
    → r ≡ bytes_eq last tail → r ≡ is_checked k digits
checked_cut k n check r found digits others last tail m front back f g t e =
    let size = m ∙ min_other (length digits) (k - 1) in
    let front' : others ≡ take (k - 1) digits = front ∙ rw size (take_min (k - 1) digits) in
    let back' : last ≡ drop (k - 1) digits = back ∙ rw size (drop_min (k - 1) digits) in
    let there : (if are_digits (take (k - 1) digits) then Some (check_digit_of (take (k - 1) digits)) else None) ≡ Some check = rw front' at (sym f ∙ g) in
    checked k check r digits last there back' (rw t at e)

pub returns-in-Some : goal.returns-in-Some
returns-in-Some c =
    let split = c.split_at.ensures in
    checked_cut c.args.k c.min.result c.in-Some.check c.eq.result c.find_check_digit.result c.args.digits.now c.split_at.result.0.now c.split_at.result.1.now c.as_slice.result.now (omega arith) split.front split.back c.find_check_digit.ensures c.in-Some.is c.as_slice.ensures c.eq.ensures
