use Rattle.std.proofs.Common.{◌≡◌, ℕ, ◌≤◌, ◌==◌, true, leb, List, length, refl, sym, arith}
use Rattle.std.proofs.lemmas.Bool.Decides.{nat_tests}
use Rattle.gs_chars.specs.Characters.{are_digits}
use Rattle.gs_ai.specs.Values.{is_date, number_at}
use Rattle.gs_ai.proofs.value.names_date.Goals as goal

is_six : (n : ℕ) → n ≡ 6 → (n == 6) ≡ true
is_six n e = rw e refl

is_at_most : (m n : ℕ) → m ≤ n → leb m n ≡ true
is_at_most m n h = grind (arith, nat_tests)

day_decides : (text : List ℕ) (month day : ℕ) → true ≡ are_digits text → length text ≡ 6 → month ≡ number_at text 2 → (1 ≤ month) × (month ≤ 12) →
    day ≡ number_at text 4 → leb day 31 ≡ is_date text
day_decides text month day digits len m within d =
    let low = rw m at (is_at_most 1 month within.0) in
    let high = rw m at (is_at_most month 12 within.1) in
    rw (d, sym digits, is_six (length text) len, low, high) refl

pub returns-then-month-le12 : goal.returns-then-month-le12
returns-then-month-le12 c =
    day_decides c.args.text.now c.number_at-month.result c.number_at.result c.if-not-are_digits.ensures c.if-text-ne6.false c.number_at-month.ensures c.if-month-le12.true c.number_at.ensures
