-- Values that parts allow, put together piece by piece.
use Rattle.std.proofs.Common.{◌≡◌, ℕ, ◌+◌, ◌-◌, ◌%◌, ◌<◌, ◌≤◌, Bool, true, not, nat_le, List, [], ◌∷◌, ◌++◌, length, take, drop, position, None, refl, sym, ◌∙◌, arith, length-append}
use Rattle.std.specs.List.{list_all}
use Rattle.std.proofs.lemmas.Bool.Decides.{nat_tests}
use Rattle.std.proofs.lemmas.List.{drop_at, take_all, take_at}
use Rattle.std.proofs.lemmas.List.Folds.{list_all-append}
use Rattle.std.proofs.lemmas.List.Sums.{sum_by-cons}
use Rattle.std.proofs.Math.ListN.{drop_of_length-le}
use Rattle.gs_chars.specs.Characters.{is_digit}
use Rattle.gs_chars.proofs.TruthsAndLists.{same_bytes}
use Rattle.gs_chars.specs.CheckDigits.{check_digit_of, weighted_sum}
use Rattle.gs_ai.specs.declared.part.Part.{Part}
use Rattle.gs_ai.specs.declared.part.Part.TheVariants.{Zero, Num, NumCheck, NumOpt, Set, SetOpt}
use Rattle.gs_ai.specs.Parts.{least_length, greatest_length, is_of_part}
use Rattle.gs_ai.specs.Values.{greatest_of, keeps_check, keeps_date, least_of, parts_error, pieces, wrong_character}
use Rattle.gs_ai.proofs.PartLemmas.{wrong_nowhere}
use Rattle.gs_ai.proofs.RowLemmas.{and_left, and_right}
use Rattle.gs_epc.specs.KeptFields.{AreCharacters, AreNumbers, HasDigits}
use Rattle.gs_epc.specs.Layout.{with_check}
use Rattle.gs_chars.proofs.Searches.{position-cons}
use Rattle.std.proofs.lemmas.Bool.{and_from}

-- ---- tests of each element

pub both_pass : {X : Type 0} (p : X → Bool) (xs ys : List X) → list_all p xs ≡ true → list_all p ys ≡ true → list_all p (xs ++ ys) ≡ true
both_pass p xs ys a b = list_all-append p xs ys ∙ and_from _ _ a b

none_fails : {X : Type 0} (p : X → Bool) (xs : List X) → list_all p xs ≡ true → position (λ x. not (p x)) xs ≡ None
none_fails p [] all = refl
none_fails p (x ∷ xs) all =
    let first : p x ≡ true = and_left (p x) (list_all p xs) all in
    let rest = none_fails p xs (and_right (p x) (list_all p xs) all) in
    rw (position-cons (λ y. not (p y)) x xs, first, rest) refl

-- ---- pieces

-- the piece has the characters that its part allows
pub record IsPiece (part : Part) (piece : List ℕ) : Type 0 where
  pub least : least_length part ≤ length piece
  pub greatest : length piece ≤ greatest_length part
  pub characters : list_all (is_of_part part) piece ≡ true
  pub check : keeps_check (part, piece) ≡ true
  pub date : keeps_date (part, piece) ≡ true

-- the value has the characters that its parts allow
pub record KeepsParts (parts : List Part) (value : List ℕ) : Type 0 where
  pub least : least_of parts ≤ length value
  pub greatest : length value ≤ greatest_of parts
  pub characters : wrong_character parts value ≡ None
  pub checks : list_all keeps_check (pieces parts value) ≡ true
  pub dates : list_all keeps_date (pieces parts value) ≡ true

pub no_error : (parts : List Part) (value : List ℕ) → KeepsParts parts value → parts_error parts value ≡ None
no_error parts value kept =
    let least : nat_le (least_of parts) (length value) ≡ true = grind (arith, nat_tests, kept.least) in
    let greatest : nat_le (length value) (greatest_of parts) ≡ true = grind (arith, nat_tests, kept.greatest) in
    rw (least, greatest, kept.characters, kept.checks, kept.dates) refl

pub nothing : KeepsParts [] []
nothing = record { least = omega arith; greatest = omega arith; characters = refl; checks = refl; dates = refl }

-- a piece of its greatest length before the value of further parts
front : (part : Part) (parts : List Part) (piece value rest : List ℕ) → take (greatest_length part) value ≡ piece
    → drop (greatest_length part) value ≡ rest → length value ≡ length piece + length rest → IsPiece part piece → KeepsParts parts rest
    → KeepsParts (part ∷ parts) value
front part parts piece value rest t d long is kept =
    let wrong : position (λ c. not (is_of_part part c)) piece ≡ None = none_fails (is_of_part part) piece is.characters in
    let least : least_of (part ∷ parts) ≡ least_length part + least_of parts = sum_by-cons least_length part parts in
    let greatest : greatest_of (part ∷ parts) ≡ greatest_length part + greatest_of parts = sum_by-cons greatest_length part parts in
    record {
      least = omega (arith, least, long, is.least, kept.least);
      greatest = omega (arith, greatest, long, is.greatest, kept.greatest);
      characters = wrong_nowhere part parts value piece rest (sym t) (sym d) wrong kept.characters;
      checks = rw (t, d) (and_from _ _ is.check kept.checks);
      dates = rw (t, d) (and_from _ _ is.date kept.dates);
    }

pub in_front : (part : Part) (parts : List Part) (piece rest : List ℕ) → length piece ≡ greatest_length part → IsPiece part piece
    → KeepsParts parts rest → KeepsParts (part ∷ parts) (piece ++ rest)
in_front part parts piece rest long is kept =
    front part parts piece (piece ++ rest) rest (take_at piece rest (greatest_length part) long)
    (drop_at piece rest (greatest_length part) long) (length-append piece rest) is kept

-- the piece of the last part
pub at_end : (part : Part) (piece : List ℕ) → IsPiece part piece → KeepsParts (part ∷ []) piece
at_end part piece is = front part [] piece piece [] (take_all (greatest_length part) piece is.greatest)
    (drop_of_length-le piece is.greatest) (omega arith) is nothing

-- ---- pieces of the parts of keys and serials

pub zero_piece : IsPiece Zero (48 ∷ [])
zero_piece = record { least = omega arith; greatest = omega arith; characters = refl; check = refl; date = refl }

digit_from : (n : ℕ) → n < 10 → is_digit (48 + n) ≡ true
digit_from n h = grind (arith, nat_tests)

-- a check digit is a digit
pub check_is_digit : (digits : List ℕ) → is_digit (check_digit_of digits) ≡ true
check_is_digit digits = digit_from ((10 - weighted_sum digits % 10) % 10) (omega arith)

pub checked_piece : (k : ℕ) (digits : List ℕ) → 2 ≤ k → length digits ≡ k - 1 → list_all is_digit digits ≡ true → IsPiece (NumCheck k) (with_check digits)
checked_piece k digits two long all =
    let check = check_digit_of digits in
    let whole : length (digits ++ check ∷ []) ≡ k = length-append digits (check ∷ []) ∙ omega (arith, long, two) in
    let are : list_all is_digit (digits ++ check ∷ []) ≡ true = both_pass is_digit digits (check ∷ []) all (and_from _ _ (check_is_digit digits) refl) in
    let others : take (k - 1) (digits ++ check ∷ []) ≡ digits = take_at digits (check ∷ []) (k - 1) long in
    let last : drop (k - 1) (digits ++ check ∷ []) ≡ check ∷ [] = drop_at digits (check ∷ []) (k - 1) long in
    record {
      least = omega (arith, whole);
      greatest = omega (arith, whole);
      characters = are;
      check = rw (are, others, last) (same_bytes (check ∷ []));
      date = refl;
    }

pub set_piece : (most : ℕ) (text : List ℕ) → AreCharacters most text → IsPiece (Set most) text
set_piece most text are = record { least = are.least; greatest = are.room; characters = are.characters; check = refl; date = refl }

pub optional_piece : (most : ℕ) (text : List ℕ) → AreCharacters most text → IsPiece (SetOpt most) text
optional_piece most text are = record { least = omega arith; greatest = are.room; characters = are.characters; check = refl; date = refl }

pub number_piece : (most : ℕ) (text : List ℕ) → AreNumbers most text → IsPiece (NumOpt most) text
number_piece most text are = record { least = omega arith; greatest = are.room; characters = are.digits; check = refl; date = refl }

pub digits_piece : (n : ℕ) (text : List ℕ) → HasDigits n text → IsPiece (Num n) text
digits_piece n text has =
    let count = has.0 in
    record { least = omega arith; greatest = omega arith; characters = has.1; check = refl; date = refl }
