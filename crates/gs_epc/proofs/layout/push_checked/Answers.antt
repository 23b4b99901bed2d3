use Rattle.std.proofs.Common.{◌≡◌, ℕ, ◌-◌, ◌<◌, ◌≤◌, List, [], ◌∷◌, ◌++◌, length, take, drop, append_assoc, arith, length-append, refl}
use Rattle.std.proofs.Math.Seq.{drop-append_seam}
use Rattle.std.proofs.lemmas.List.{take_all}
use Rattle.std.specs.Prelude.{IsTrue}
use Rattle.gs_chars.specs.Characters.{are_digits}
use Rattle.gs_chars.specs.CheckDigits.{check_digit_of}
use Rattle.gs_epc.specs.Layout.{AreKeyDigits, key_digits, with_check}
use Rattle.gs_epc.proofs.layout.push_checked.Goals as goal

-- the text read after the old value
slice_is : (value digits whole old seen slice : List ℕ) → whole ≡ value ++ digits → old ≡ value → seen ≡ whole
    → slice ≡ take (length seen - length old) (drop (length old) seen) → slice ≡ digits
slice_is value digits whole old seen slice w o e s =
    let count : length (value ++ digits) - length value ≡ length digits = omega (arith, length-append value digits) in
    rw (e, o, w, drop-append_seam value digits, count, take_all (length digits) digits (omega arith)) at s

-- the digits of a key are those that a check digit is made of
record Checks (digits : List ℕ) : Type 0 where
  pub least : 0 < length digits
  pub most : length digits ≤ 18
  pub all : IsTrue (are_digits digits)

checks : (lead : ℕ) (value prefix rest whole old seen : List ℕ) → AreKeyDigits lead prefix rest
    → whole ≡ value ++ key_digits lead prefix rest → old ≡ value → seen ≡ whole
    → Checks (take (length seen - length old) (drop (length old) seen))
checks lead value prefix rest whole old seen key w o e =
    let same = slice_is value (key_digits lead prefix rest) whole old seen _ w o e refl in
    record { least = rw same key.least; most = rw same key.most; all = rw same key.digits }

checked_written : (value digits whole old seen slice new : List ℕ) (check : ℕ) → whole ≡ value ++ digits → old ≡ value → seen ≡ whole
    → slice ≡ take (length seen - length old) (drop (length old) seen)
    → check ≡ check_digit_of slice → new ≡ whole ++ check ∷ [] → new ≡ value ++ with_check digits
checked_written value digits whole old seen slice new check w o e s c n =
    let same = slice_is value digits whole old seen slice w o e s in
    rw (n, c, same, w) (append_assoc value digits (check_digit_of digits ∷ []))

pub check_digit-check-requires-clause-at_least_one : goal.check_digit-check-requires-clause-at_least_one
check_digit-check-requires-clause-at_least_one c =
    (checks c.args.lead c.args.value.now c.args.prefix.now c.args.rest.now c.push_digits.new.value c.as_bytes-start.result.now c.as_bytes.result.now c.requires c.in_ok-push_digits.ensures c.as_bytes-start.ensures c.as_bytes.ensures).least

pub check_digit-check-requires-clause-at_most_18 : goal.check_digit-check-requires-clause-at_most_18
check_digit-check-requires-clause-at_most_18 c =
    (checks c.args.lead c.args.value.now c.args.prefix.now c.args.rest.now c.push_digits.new.value c.as_bytes-start.result.now c.as_bytes.result.now c.requires c.in_ok-push_digits.ensures c.as_bytes-start.ensures c.as_bytes.ensures).most

pub check_digit-check-requires-clause-all_digits : goal.check_digit-check-requires-clause-all_digits
check_digit-check-requires-clause-all_digits c =
    (checks c.args.lead c.args.value.now c.args.prefix.now c.args.rest.now c.push_digits.new.value c.as_bytes-start.result.now c.as_bytes.result.now c.requires c.in_ok-push_digits.ensures c.as_bytes-start.ensures c.as_bytes.ensures).all

pub returns : goal.returns
returns c =
    checked_written c.args.value.now (key_digits c.args.lead c.args.prefix.now c.args.rest.now) c.push_digits.new.value c.as_bytes-start.result.now c.as_bytes.result.now _ c.push.new.self c.check_digit-check.result
    c.in_ok-push_digits.ensures c.as_bytes-start.ensures c.as_bytes.ensures refl c.check_digit-check.ensures c.in_ok-push.ensures.appended
